-- The number that each refusal carries in the published list.
-- A reader must believe these definitions; nothing here is proved.
use Rattle.std.specs.Prelude.{ℕ}
use Rattle.calls.specs.declared.Refusal.{Refusal}
use Rattle.calls.specs.declared.Refusal.TheVariants.{Length, Invalid, NotLive, SameCell, DimensionsDiffer, FacesDiffer, NotClosed, TopMarked, NoRoom, TooLarge, Misplaced, NoSuchPlace, RuleA, RuleB, BadContents, BadNumber, BadText, BadIndex}

abbrev pub number_of : Refusal → ℕ
number_of Length = 1
number_of (Invalid b) = 2
number_of NotLive = 3
number_of SameCell = 4
number_of DimensionsDiffer = 5
number_of FacesDiffer = 6
number_of NotClosed = 7
number_of TopMarked = 8
number_of NoRoom = 9
number_of TooLarge = 10
number_of Misplaced = 11
number_of NoSuchPlace = 12
number_of (RuleA c) = 13
number_of (RuleB c) = 14
number_of BadContents = 15
number_of BadNumber = 16
number_of BadText = 17
number_of BadIndex = 18

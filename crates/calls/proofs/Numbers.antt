-- No refusal has the number 0, which says that a call is accepted, and none has more than two digits.
-- What carries it: the list. Assumes nothing.
use Prim.Native.Nat.{◌≤◌, ◌<◌}
use native.Mathlib.Omega.{arith}
use Rattle.calls.specs.Numbers.{number_of}
use Rattle.calls.specs.declared.Refusal.{Refusal}
use Rattle.calls.specs.declared.Refusal.TheVariants.{Length, Invalid, NotLive, SameCell, DimensionsDiffer, FacesDiffer, NotClosed, TopMarked, NoRoom, TooLarge, Misplaced, NoSuchPlace, RuleA, RuleB, BadContents, BadNumber, BadText, BadIndex}

pub number_above_zero : (r : Refusal) → 0 < number_of r
number_above_zero Length = omega arith
number_above_zero (Invalid b) = omega arith
number_above_zero NotLive = omega arith
number_above_zero SameCell = omega arith
number_above_zero DimensionsDiffer = omega arith
number_above_zero FacesDiffer = omega arith
number_above_zero NotClosed = omega arith
number_above_zero TopMarked = omega arith
number_above_zero NoRoom = omega arith
number_above_zero TooLarge = omega arith
number_above_zero Misplaced = omega arith
number_above_zero NoSuchPlace = omega arith
number_above_zero (RuleA c) = omega arith
number_above_zero (RuleB c) = omega arith
number_above_zero BadContents = omega arith
number_above_zero BadNumber = omega arith
number_above_zero BadText = omega arith
number_above_zero BadIndex = omega arith

-- and none has more than two digits
pub number_small : (r : Refusal) → number_of r ≤ 18
number_small Length = omega arith
number_small (Invalid b) = omega arith
number_small NotLive = omega arith
number_small SameCell = omega arith
number_small DimensionsDiffer = omega arith
number_small FacesDiffer = omega arith
number_small NotClosed = omega arith
number_small TopMarked = omega arith
number_small NoRoom = omega arith
number_small TooLarge = omega arith
number_small Misplaced = omega arith
number_small NoSuchPlace = omega arith
number_small (RuleA c) = omega arith
number_small (RuleB c) = omega arith
number_small BadContents = omega arith
number_small BadNumber = omega arith
number_small BadText = omega arith
number_small BadIndex = omega arith

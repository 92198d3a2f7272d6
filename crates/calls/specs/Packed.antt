-- The one word in which C sees a refusal. Bits 0 to 7 are its number. For a breach, bits 8 and 9 are its kind, 10 to 12 the face place
-- j, 13 to 15 the place l of the law, and 16 to 31 the cell. For the two rules of evidence, bits 16 to 31 are the row.
-- A reader must believe these definitions; nothing here is proved.
use Rattle.std.specs.Prelude.{ℕ, ◌+◌, ◌*◌, ◌%◌, ◌<◌}
use Prim.{Unit}
use Rattle.calls.specs.declared.Breach.{Breach}
use Rattle.calls.specs.declared.Breach.TheVariants.{Record, Face, Law}
use Rattle.calls.specs.declared.Refusal.{Refusal}
use Rattle.calls.specs.declared.Refusal.TheVariants.{Length, Invalid, NotLive, SameCell, DimensionsDiffer, FacesDiffer, NotClosed, TopMarked, NoRoom, TooLarge, Misplaced, NoSuchPlace, RuleA, RuleB, BadContents, BadNumber, BadText, BadIndex}

-- how many numbers a face place has room for, and a cell
abbrev pub place_room : ℕ
place_room = 8

abbrev pub cell_room : ℕ
cell_room = 65536

-- a number in the bits of its field: the kind from bit 8 on, j from 10, l from 13, the cell from 16
abbrev pub in_kind : ℕ → ℕ
in_kind k = k * 256

abbrev pub in_place : ℕ → ℕ
in_place j = j * 1024

abbrev pub in_second : ℕ → ℕ
in_second l = l * 8192

abbrev pub in_cell : ℕ → ℕ
in_cell c = c * 65536

-- Kind 1 is a record, 2 a face, 3 the law. The remainders keep each number in its field whatever it is; they take nothing away from
-- the breach of a table, whose numbers have room.
abbrev pub breach_bits : Breach → ℕ
breach_bits (Record c) = in_kind 1 + in_cell (c % cell_room)
breach_bits (Face c j) = in_kind 2 + in_place (j % place_room) + in_cell (c % cell_room)
breach_bits (Law c j l) = in_kind 3 + (in_place (j % place_room) + in_second (l % place_room)) + in_cell (c % cell_room)

-- a row has 16 bits, as its field

abbrev pub packed_of : Refusal → ℕ
packed_of Length = 1
packed_of (Invalid b) = 2 + breach_bits b
packed_of NotLive = 3
packed_of SameCell = 4
packed_of DimensionsDiffer = 5
packed_of FacesDiffer = 6
packed_of NotClosed = 7
packed_of TopMarked = 8
packed_of NoRoom = 9
packed_of TooLarge = 10
packed_of Misplaced = 11
packed_of NoSuchPlace = 12
packed_of (RuleA c) = 13 + in_cell c
packed_of (RuleB c) = 14 + in_cell c
packed_of BadContents = 15
packed_of BadNumber = 16
packed_of BadText = 17
packed_of BadIndex = 18

-- a breach that the word has room for: no remainder takes anything away
abbrev pub BreachFits : Breach → Type 0
BreachFits (Record c) = c < cell_room
BreachFits (Face c j) = (c < cell_room) × (j < place_room)
BreachFits (Law c j l) = (c < cell_room) × (j < place_room) × (l < place_room)

-- and such a refusal
abbrev pub WordFits : Refusal → Type 0
WordFits Length = Unit {0}
WordFits (Invalid b) = BreachFits b
WordFits NotLive = Unit {0}
WordFits SameCell = Unit {0}
WordFits DimensionsDiffer = Unit {0}
WordFits FacesDiffer = Unit {0}
WordFits NotClosed = Unit {0}
WordFits TopMarked = Unit {0}
WordFits NoRoom = Unit {0}
WordFits TooLarge = Unit {0}
WordFits Misplaced = Unit {0}
WordFits NoSuchPlace = Unit {0}
WordFits (RuleA c) = c < cell_room
WordFits (RuleB c) = c < cell_room
WordFits BadContents = Unit {0}
WordFits BadNumber = Unit {0}
WordFits BadText = Unit {0}
WordFits BadIndex = Unit {0}

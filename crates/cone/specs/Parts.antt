-- Where the marks end, what the pass that fixes the new numbers leaves, and what the writing of the new cells starts from.
-- A reader need not believe this file: it says what the parts of the call hand to one another.
use Rattle.std.specs.Prelude.{◌≡◌, Bool, true, false, not, List, [], ◌∷◌, ℕ, suc, ◌+◌, ◌*◌, ◌-◌, ◌≤◌, ◌<◌, length, get_or, eqb, ltb}
use Rattle.bitset.specs.Bits.{bits, member}
use Rattle.table.specs.Kind.{capacity, top, free_mark, used}
use Rattle.table.specs.Table.{cells_of, dim, face}
use Rattle.table.specs.Records.{Record, Stored}
use Rattle.counting.specs.Counting.{how_many, nth, pick}
use Rattle.audit.specs.Audit.{grounds_with}
use Rattle.calls.specs.Calls.{Ground, Verdict, verdict}
use Rattle.calls.specs.declared.Refusal.TheVariants.{NoRoom}
use Rattle.cone.specs.declared.numbers.Numbers.{Numbers}
use Rattle.std.specs.declared.result.Result.TheVariants.{Ok}
use Prim.{tt}
use Rattle.cone.specs.Cone.{free, apex_of, cone_of, no_room, marks_fit, mark_grounds, cone_verdict}

-- every mark is below e, and where e is not 0 the number before it is marked
pub record MarkedBelow (marks : List ℕ) (e : ℕ) : Type 0 where
  pub inside : e ≤ bits * length marks
  pub last : 0 < e → member marks (e - 1) ≡ true
  pub none : (s : ℕ) → e ≤ s → member marks s ≡ false

-- face j of cell c is not marked
abbrev pub open_face : List ℕ → List ℕ → ℕ → ℕ → Bool
open_face t marks c j = not (member marks (face t c j))

-- the first free number from c on: as many lie below it as below c; N where there is none
abbrev pub free_from : List ℕ → ℕ → ℕ
free_from t c = nth (free t) (cells_of t) (how_many (free t) c)

-- the apex has its number, and each marked cell has at its place that of its cone
pub record Given (t marks : List ℕ) (ns : Numbers) : Type 0 where
  pub is_apex : ns.apex ≡ apex_of t
  pub at : (s : ℕ) → s < cells_of t → member marks s ≡ true → get_or ns.cones s 0 ≡ cone_of t marks s

-- what is answered where the new cells are numbered: refused where there are too few free numbers
abbrev pub room_verdict : List ℕ → List ℕ → Verdict
room_verdict t marks = verdict (record { refusal = NoRoom; applies = no_room t marks } ∷ [])

-- face j of the cone over the p-cell s: the apex at a point, else side j, then s itself, then nothing
unfoldable pub over_face : ℕ → ℕ → ℕ → (ℕ → ℕ) → ℕ → ℕ
over_face p s apex side j =
    pick (eqb j (suc p)) s (pick (ltb (suc p) j) free_mark (pick (eqb p 0) apex (side j)))

-- face j of the cone over cell s, with the apex and the cones of the faces of s by their numbers ns
abbrev pub face_by : List ℕ → Numbers → ℕ → ℕ → ℕ
face_by t ns s = over_face (dim t s) s ns.apex (λ j. get_or ns.cones (face t s j) 0)

-- the record of that cone
abbrev pub record_by : List ℕ → Numbers → ℕ → Record
record_by t ns s = record { dim = suc (dim t s); face = face_by t ns s }

-- cell s has room for a cone above it, its faces have an entry in ns, and its own entry lies inside the table
pub record Coneable (t : List ℕ) (ns : Numbers) (s : ℕ) : Type 0 where
  pub inside : s < cells_of t
  pub few : cells_of t ≤ capacity
  pub low : dim t s < top
  pub sides : (j : ℕ) → j < used (dim t s) → face t s j < capacity
  pub place : get_or ns.cones s 0 < cells_of t

-- the same with its numbers: the cone over s has dimension p, and s has u faces
abbrev pub ConeableAs : List ℕ → Numbers → ℕ → ℕ → ℕ → Type 0
ConeableAs t ns s p u = Coneable t ns s × (p ≡ dim t s + 1) × (u ≡ used (dim t s))

-- t' is the table t with the cone over s in the record that its entry names
abbrev pub ConeStored : List ℕ → Numbers → ℕ → List ℕ → Type 0
ConeStored t ns s t' = Stored (get_or ns.cones s 0) (record_by t ns s) t t'

-- nothing refuses the cone, and its numbers are fixed
pub record Ready (t marks : List ℕ) (ns : Numbers) : Type 0 where
  pub accepted : cone_verdict t marks ≡ Ok tt
  pub is_apex : ns.apex ≡ apex_of t
  pub numbers : (s : ℕ) → member marks s ≡ true → get_or ns.cones s 0 ≡ cone_of t marks s

-- all grounds but the room
abbrev pub early_grounds : List ℕ → List ℕ → List Ground
early_grounds t marks = grounds_with t (marks_fit t marks) (mark_grounds t marks)

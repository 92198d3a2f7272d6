-- A record as one value: a dimension and the words at the face places. What a call leaves in a table is given record by record, and
-- never by a word's place.
-- A reader must believe these definitions but for `Stored` and `ShiftedUp`, which only the functions that write for others cite; nothing
-- here is proved.
use Rattle.std.specs.Prelude.{◌≡◌, List, ℕ, suc, ◌-◌, ◌*◌, ◌/◌, ◌%◌, ◌≤◌, ◌<◌, length, eqb}
use Rattle.counting.specs.Counting.{pick, listed}
use Rattle.table.specs.Kind.{faces, width, free_mark}
use Rattle.table.specs.Table.{dim, face}

pub record Record : Type 0 where
  pub dim : ℕ
  pub face : ℕ → ℕ

-- record c of a table, and a free one
abbrev pub record_at : List ℕ → ℕ → Record
record_at t c = record { dim = dim t c; face = face t c }

abbrev pub free_record : Record
free_record = record { dim = free_mark; face = λ j. free_mark }

-- word k of a record: the dimension first, then the faces
unfoldable pub word_of : Record → ℕ → ℕ
word_of r k = pick (eqb k 0) r.dim (r.face (k - 1))

-- the table of n records
unfoldable pub table_of : ℕ → (ℕ → Record) → List ℕ
table_of n r = listed (n * width) (λ i. word_of (r (i / width)) (i % width))

-- two records with the same words
pub record Alike (r s : Record) : Type 0 where
  pub same_dim : r.dim ≡ s.dim
  pub same_face : (j : ℕ) → j < faces → r.face j ≡ s.face j

-- u is the table t with r as its record c, and every other record as it was
pub record Stored (c : ℕ) (r : Record) (t u : List ℕ) : Type 0 where
  pub size : length u ≡ length t
  pub here : Alike (record_at u c) r
  pub else : (s : ℕ) → (s ≡ c → ⊥) → Alike (record_at u s) (record_at t s)

-- v is the table t with records k to m − 1 moved up by one, and record k as it was
pub record ShiftedUp (k m : ℕ) (t v : List ℕ) : Type 0 where
  pub size : length v ≡ length t
  pub low : (s : ℕ) → s ≤ k → Alike (record_at v s) (record_at t s)
  pub up : (s : ℕ) → k ≤ s → s < m → Alike (record_at v (suc s)) (record_at t s)
  pub far : (s : ℕ) → m < s → Alike (record_at v s) (record_at t s)

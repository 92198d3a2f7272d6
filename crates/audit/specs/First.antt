-- Where a table is broken, and which breach is the first: by cell number, then by kind (record, face, law), then by face place, then for
-- the law by the pair, j before l. A cell counts as live where its word 0 is 0 to 6, and the law compares words as they stand.
-- A reader must believe these definitions; nothing here is proved.
use Rattle.std.specs.Prelude.{◌≡◌, List, [], ◌∷◌, ℕ, suc, ◌-◌, ◌≤◌, ◌<◌}
use Rattle.counting.specs.Dictionary.{Before}
use Rattle.table.specs.Kind.{top, faces, free_mark, used}
use Rattle.table.specs.Table.{cells_of, dim, face, Live}
use Rattle.calls.specs.Numbers.{number_of}
use Rattle.calls.specs.Packed.{WordFits}
use Rattle.calls.specs.declared.Breach.{Breach}
use Rattle.calls.specs.declared.Breach.TheVariants.{Record, Face, Law}
use Rattle.calls.specs.declared.Refusal.{Refusal}
use Rattle.calls.specs.declared.Refusal.TheVariants.{Invalid}

-- a word that an unused place of record c should not have
pub record Stray (t : List ℕ) (c : ℕ) : Type 0 where
  pub place : ℕ
  pub unused : used (dim t c) ≤ place
  pub inside : place < faces
  pub differs : face t c place ≡ free_mark → ⊥

-- face j of cell c is a live cell, one dimension down
pub record Below (t : List ℕ) (c j : ℕ) : Type 0 where
  pub named : Live t (face t c j)
  pub one_down : dim t c ≡ suc (dim t (face t c j))

pub data IsBreach (t : List ℕ) : Breach → Type 0 where
  -- a record of the table: its word 0 is neither a dimension nor the free mark, or an unused word is not 65535
  no_kind : {c : ℕ} → c < cells_of t → top < dim t c → (dim t c ≡ free_mark → ⊥) → IsBreach t (Record c)
  stray : {c : ℕ} → c < cells_of t → Stray t c → IsBreach t (Record c)
  -- a used face place of a live cell that names no live cell one dimension down
  no_face : {c j : ℕ} → Live t c → j < used (dim t c) → (Below t c j → ⊥) → IsBreach t (Face c j)
  -- a pair of places l < j of a live cell, both of whose words lie inside the table: face l of face j is not face j − 1 of face l
  no_law : {c j l : ℕ} → Live t c → 2 ≤ dim t c → l < j → j ≤ dim t c → face t c j < cells_of t → face t c l < cells_of t → (face t (face t c j) l ≡ face t (face t c l) (j - 1) → ⊥) → IsBreach t (Law c j l)

-- what breaches are ordered by: the cell, the kind, the places
abbrev pub key : Breach → List ℕ
key (Record c) = c ∷ 1 ∷ []
key (Face c j) = c ∷ 2 ∷ j ∷ []
key (Law c j l) = c ∷ 3 ∷ j ∷ l ∷ []

-- b is the first breach of the table
pub record IsFirst (t : List ℕ) (b : Breach) : Type 0 where
  pub breach : IsBreach t b
  pub first : (b' : Breach) → IsBreach t b' → Before (key b') (key b) → ⊥

-- a refusal with the number 2 names the first breach of the table t
pub record NamesFirst (t : List ℕ) (r : Refusal) : Type 0 where
  pub breach : Breach
  pub named : r ≡ Invalid breach
  pub first : IsFirst t breach

-- What every refusal r of a call on the table t tells: with the number 2 it names the first breach, and the word that C sees has room
-- for it.
pub record Tells (t : List ℕ) (r : Refusal) : Type 0 where
  pub breach_named : number_of r ≡ 2 → NamesFirst t r
  pub fits : WordFits r

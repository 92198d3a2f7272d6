-- What the steps of a merge ask of the two cells, and what they write: where a face word goes. The call's own contract does not need this; the contracts of its parts do.
-- A reader need not believe this file: proofs/ ties it to Merge.antt.
use Rattle.std.specs.Prelude.{◌≡◌, List, ℕ, length, eqb, ltb}
use Rattle.counting.specs.Counting.{pick}
use Rattle.table.specs.Table.{cells_of, dim, face, Live, Valid}
use Rattle.table.specs.Records.{Record, table_of}

-- two cells that may be joined, whatever their faces are: a weld asks no more, a merge asks for equal faces too
pub record Joinable (t : List ℕ) (a b : ℕ) : Type 0 where
  pub valid : Valid t
  pub first : Live t a
  pub second : Live t b
  pub different : a ≡ b → ⊥
  pub same_dim : dim t a ≡ dim t b

-- a face word once the freed number goes to the kept one
abbrev pub sent : ℕ → ℕ → ℕ → ℕ
sent kept gone f = pick (eqb f gone) kept f

-- record c with its faces sent so
abbrev pub sent_record : ℕ → ℕ → List ℕ → ℕ → Record
sent_record kept gone t c = record { dim = dim t c; face = λ j. sent kept gone (face t c j) }

-- t with the faces of its records below c sent so
abbrev pub passing : ℕ → ℕ → List ℕ → ℕ → ℕ → Record
passing kept gone t c d = record { dim = dim t d; face = λ j. pick (ltb d c) (sent kept gone (face t d j)) (face t d j) }

abbrev pub partly : ℕ → ℕ → List ℕ → ℕ → List ℕ
partly kept gone t c = table_of (cells_of t) (passing kept gone t c)

-- u is what a pass over the valid table t has made of it once it stands before record c
pub record Begun (kept gone : ℕ) (t u : List ℕ) (c : ℕ) : Type 0 where
  pub valid : Valid t
  pub size : length u ≡ length t
  pub done : u ≡ partly kept gone t c

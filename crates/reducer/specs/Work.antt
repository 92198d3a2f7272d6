-- The reducer at work: which row owns a largest cell, and what each step of the work leaves.
-- Cited by the contracts of private functions alone, beside the definitions of Rule.antt; nothing here is proved.
use Rattle.std.specs.Prelude.{◌≡◌, List, ℕ, suc, ◌*◌, ◌<◌, ◌≤◌, length, get_or, Option, None, Some}
use Rattle.homology.specs.Cells.{Cells}
use Rattle.homology.specs.Holes.{boundary}
use Rattle.bitset.specs.Bits.{bits, member, IsLargestIn}
use Rattle.table.specs.Kind.{capacity}
use Rattle.rows.specs.Rows.{row_width, evidence_words, row_of}
use Rattle.reducer.specs.Rule.{Additions, LargestOf, alone, empty_row}

-- Tables whose rows have one word, and those whose rows have up to four: the most cells of each.
abbrev pub small : ℕ
small = bits

abbrev pub middle_words : ℕ
middle_words = 4

abbrev pub middle : ℕ
middle = middle_words * bits

-- the words x are the boundary of the row y
pub record Bounds (K : Cells) (x y : List ℕ) : Type 0 where
  pub same : (s : ℕ) → member x s ≡ boundary K (member y) s

-- for each cell the row that owns it, where one does
abbrev pub Owners : Type 0
Owners = List (Option ℕ)

abbrev pub owner_of : Owners → ℕ → Option ℕ
owner_of owner m = get_or owner m None

-- Of the rows below c, the owner list names for each cell m the one whose boundary has m as its largest cell, where one has. The
-- boundary of the owner's row is kept at m.
pub record Owned (K : Cells) (ev kept : List ℕ) (owner : Owners) (c : ℕ) : Type 0 where
  pub free : (m b : ℕ) → owner_of owner m ≡ None → b < c → LargestOf K (row_of K ev b) m → ⊥
  pub earlier : (m a : ℕ) → owner_of owner m ≡ Some a → a < c
  pub bounds : (m a : ℕ) → owner_of owner m ≡ Some a → Bounds K (row_of K kept m) (row_of K ev a)
  pub largest : (m a : ℕ) → owner_of owner m ≡ Some a → IsLargestIn (row_of K kept m) m

-- the three buffers are large enough for the cells
pub record Roomy (K : Cells) (ev kept : List ℕ) (owner : Owners) : Type 0 where
  pub evidence : length ev ≡ evidence_words K
  pub boundaries : bits * row_width K * row_width K ≤ length kept
  pub owners : bits * row_width K ≤ length owner

-- the rows below c are finished, and row c is empty
pub record Ready (K : Cells) (c : ℕ) (ev kept : List ℕ) (owner : Owners) : Type 0 where
  pub roomy : Roomy K ev kept owner
  pub owned : Owned K ev kept owner c
  pub empty : row_of K ev c ≡ empty_row K

-- row c is the cell alone, and x its boundary
pub record Begun (K : Cells) (c : ℕ) (x ev kept : List ℕ) (owner : Owners) : Type 0 where
  pub roomy : Roomy K ev kept owner
  pub owned : Owned K ev kept owner c
  pub row : row_of K ev c ≡ alone K c
  pub long : length x ≡ row_width K
  pub bounds : Bounds K x (row_of K ev c)

-- row c is finished too, by n additions
pub record Finished (K : Cells) (c : ℕ) (ev ev' kept' : List ℕ) (owner' : Owners) (n : ℕ) : Type 0 where
  pub roomy : Roomy K ev' kept' owner'
  pub row : Additions K ev' c (alone K c) n (row_of K ev' c)
  pub few : n ≤ capacity
  pub owned : Owned K ev' kept' owner' (suc c)
  pub others : (b : ℕ) → (b ≡ c → ⊥) → row_of K ev' b ≡ row_of K ev b

-- every word is 0
abbrev pub Blank : List ℕ → Type 0
Blank ws = (k : ℕ) → get_or ws k 0 ≡ 0

-- before the first row: no word of evidence is set, and no cell has an owner
pub record Fresh (ev : List ℕ) (owner : Owners) : Type 0 where
  pub no_rows : Blank ev
  pub no_owners : (m : ℕ) → owner_of owner m ≡ None

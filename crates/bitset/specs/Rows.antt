-- Sets one after another, w words to each: row c is the w words from place c · w on; and what a step that writes one row leaves.
-- A reader must believe these definitions; nothing here is proved.
use Rattle.std.specs.Prelude.{◌≡◌, List, ℕ, ◌*◌, length, take, drop}
use Rattle.bitset.specs.Bits.{toggled, sum_of}

-- row c of words that stand w to a row
abbrev pub row_at : ℕ → List ℕ → ℕ → List ℕ
row_at w ws c = take w (drop (c * w) ws)

-- row m was set to the words x, and no other row changed
pub record RowKept (w m : ℕ) (x ws ws' : List ℕ) : Type 0 where
  pub long : length ws' ≡ length ws
  pub row : row_at w ws' m ≡ x
  pub others : (i : ℕ) → (i ≡ m → ⊥) → row_at w ws' i ≡ row_at w ws i

-- row a was added to row c
abbrev pub RowAdded : ℕ → ℕ → ℕ → List ℕ → List ℕ → Type 0
RowAdded w c a ws ws' = RowKept w c (sum_of (row_at w ws c) (row_at w ws a)) ws ws'

-- the number c was put into row c, or taken out
abbrev pub RowStarted : ℕ → ℕ → List ℕ → List ℕ → Type 0
RowStarted w c ws ws' = RowKept w c (toggled (row_at w ws c) c) ws ws'

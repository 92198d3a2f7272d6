-- The lent words as a table: record c describes cell c; word 0 is its dimension, words 1 to 7 are its faces. These definitions
-- are the only way into the words. And when a table is valid, line by line as it was published.
-- A reader must believe these definitions; nothing here is proved.
use Rattle.std.specs.Prelude.{◌≡◌, Bool, ◌&&◌, not, ◌⊎◌, List, [], ◌∷◌, ℕ, suc, ◌+◌, ◌-◌, ◌*◌, ◌/◌, ◌%◌, ◌≤◌, ◌<◌, length, get_or, leb, ltb, eqb}
use Rattle.counting.specs.Counting.{how_many}
use Rattle.calls.specs.Calls.{Ground}
use Rattle.calls.specs.declared.Refusal.TheVariants.{Length}
use Rattle.table.specs.Kind.{capacity, top, faces, width, free_mark, used}

-- how many records the words hold
abbrev pub cells_of : List ℕ → ℕ
cells_of t = length t / width

-- word 0 of record c
abbrev pub dim : List ℕ → ℕ → ℕ
dim t c = get_or t (c * width) 0

-- face j of record c
abbrev pub face : List ℕ → ℕ → ℕ → ℕ
face t c j = get_or t (c * width + (1 + j)) 0

-- the seven face words of record c
abbrev pub faces_of : List ℕ → ℕ → List ℕ
faces_of t c =
    face t c 0 ∷ face t c 1 ∷ face t c 2 ∷ face t c 3 ∷ face t c 4 ∷ face t c 5 ∷ face t c 6 ∷ []

-- 8·N words, N from 1 to 512
pub record Sized (t : List ℕ) : Type 0 where
  pub whole : length t ≡ cells_of t * width
  pub some : 1 ≤ cells_of t
  pub room : cells_of t ≤ capacity

-- whether they are, and the ground for refusal where they are not
unfoldable pub sized : List ℕ → Bool
sized t = eqb (length t % width) 0 && (leb 1 (cells_of t) && leb (cells_of t) capacity)

abbrev pub on_length : List ℕ → Ground
on_length t = record { refusal = Length; applies = not (sized t) }

-- the same for a call that is lent other buffers too: whether their lengths fit
abbrev pub on_lengths : List ℕ → Bool → Ground
on_lengths t fit = record { refusal = Length; applies = not (sized t && fit) }

-- a live cell: inside the table, and with a dimension
pub record Live (t : List ℕ) (c : ℕ) : Type 0 where
  pub inside : c < cells_of t
  pub low : dim t c ≤ top

unfoldable pub live : List ℕ → ℕ → Bool
live t c = ltb c (cells_of t) && leb (dim t c) top

-- whether c is a live p-cell
unfoldable pub is_cell : List ℕ → ℕ → ℕ → Bool
is_cell t p c = live t c && eqb (dim t c) p

-- the number of live p-cells
unfoldable pub count_of : List ℕ → ℕ → ℕ
count_of t p = how_many (is_cell t p) (cells_of t)

-- A table is valid when
pub record Valid (t : List ℕ) : Type 0 where
  -- its words are 8·N,
  pub sized : Sized t
  -- every record has a dimension from 0 to 6 or is free,
  pub records : (c : ℕ) → c < cells_of t → (dim t c ≤ top) ⊎ (dim t c ≡ free_mark)
  -- unused words, all seven of a free record, are 65535,
  pub unused : (c j : ℕ) → c < cells_of t → used (dim t c) ≤ j → j < faces → face t c j ≡ free_mark
  -- each used face names a live cell
  pub face_live : (c j : ℕ) → Live t c → j < used (dim t c) → Live t (face t c j)
  -- of dimension p − 1,
  pub face_dim : (c j : ℕ) → Live t c → j < used (dim t c) → dim t c ≡ suc (dim t (face t c j))
  -- and face l of face j is face j − 1 of face l.
  pub law : (c j l : ℕ) → Live t c → 2 ≤ dim t c → l < j → j ≤ dim t c → face t (face t c j) l ≡ face t (face t c l) (j - 1)

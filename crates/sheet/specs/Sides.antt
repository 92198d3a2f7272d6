-- What the functions inside the sheet test compute: the levels of a table, at how many places a cell is named, and the test of each
-- cell by these numbers. A reader need not believe this file: Sheet.antt says what the call answers, and proofs/ that it is this.
use Rattle.std.specs.Prelude.{◌≡◌, Bool, true, false, ◌||◌, List, ℕ, zero, suc, max, ◌+◌, ◌≤◌, ◌<◌, length, get_or, eqb, ltb}
use Rattle.counting.specs.Counting.{total, pick, all}
use Rattle.table.specs.Kind.{top}
use Rattle.table.specs.Table.{cells_of, dim, Live, live, Valid}
use Rattle.sheet.specs.Sheet.{places}

-- the level of a record with word 0 p: one more than its dimension, or 0 where it is free
abbrev pub level_of : ℕ → ℕ
level_of p = pick (ltb top p) 0 (p + 1)

-- one more than the largest live dimension below cell number m; 0 where there is none
unfoldable pub levels_below : List ℕ → ℕ → ℕ
levels_below t zero = 0
levels_below t (suc m) = pick (live t m) (max (levels_below t m) (suc (dim t m))) (levels_below t m)

-- the levels of the whole table
abbrev pub levels_of : List ℕ → ℕ
levels_of t = levels_below t (cells_of t)

-- at how many places of the cells below number m u is named
unfoldable pub sides_below : List ℕ → ℕ → ℕ → ℕ
sides_below t u m = total (λ c. places t c u) m

-- what the counter k of a cell of dimension p says that is named at s places, in a table of l levels: it is 0 exactly where s is, never
-- above 2, and s itself where the cell lies one below the largest dimension
pub record Told (l p k s : ℕ) : Type 0 where
  pub most : k ≤ s
  pub some : 1 ≤ s → 1 ≤ k
  pub wings : p + 2 ≡ l → k ≡ s
  pub few : k ≤ 2

-- the counters k after the cells below m
pub record Counted (t k : List ℕ) (m : ℕ) : Type 0 where
  pub room : cells_of t ≤ length k
  pub each : (u : ℕ) → u < cells_of t → Told (levels_of t) (dim t u) (get_or k u 0) (sides_below t u m)

-- c is the cell that the counters k are to take in next
pub record IsNext (t : List ℕ) (c : ℕ) (k : List ℕ) : Type 0 where
  pub valid : Valid t
  pub inside : c < cells_of t
  pub counted : Counted t k c

-- a cell one below the largest dimension that is named at three places or more
pub record Crowded (t : List ℕ) : Type 0 where
  pub cell : ℕ
  pub living : Live t cell
  pub level : dim t cell + 2 ≡ levels_of t
  pub three : 3 ≤ sides_below t cell (cells_of t)

-- how a count ends that is to take in the cells below m: with the counters k, or at a crowded cell
abbrev pub CountEnds : List ℕ → List ℕ → ℕ → Bool → Type 0
CountEnds t k m r = (r ≡ true → Counted t k m) × (r ≡ false → Crowded t)

-- whether a cell with word 0 p and k sides passes in a table of l levels: it is free, or of the largest dimension, or a face
abbrev pub passes : ℕ → ℕ → ℕ → Bool
passes p l k = ltb top p || (eqb (p + 1) l || ltb 0 k)

unfoldable pub all_pass : List ℕ → ℕ → List ℕ → Bool
all_pass t l k = all (cells_of t) (λ c. passes (dim t c) l (get_or k c 0))

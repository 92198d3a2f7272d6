-- Which indices a part list may have: each below the count, and none twice in its line.
-- A reader must believe these definitions; nothing here is proved.
use Rattle.std.specs.Prelude.{◌≡◌, Bool, true, ◌&&◌, not, List, [], ◌∷◌, ℕ, ◌<◌, length, get_or, ltb, eqb}
use Rattle.counting.specs.Counting.{some_has, all}

-- whether the index at place i of its line stands at an earlier place too
unfoldable pub repeated : List ℕ → ℕ → Bool
repeated l i = some_has (λ j. eqb (get_or l j 0) (get_or l i 0)) i

-- the index at place i is below n, and not repeated
unfoldable pub index_fits : ℕ → List ℕ → ℕ → Bool
index_fits n l i = ltb (get_or l i 0) n && not (repeated l i)

unfoldable pub line_fits : ℕ → List ℕ → Bool
line_fits n l = all (length l) (index_fits n l)

unfoldable pub list_fits : ℕ → List (List ℕ) → Bool
list_fits n [] = true
list_fits n (l ∷ ls) = line_fits n l && list_fits n ls

-- What the test of a line means, as proofs/ show: all indices are below n, and no two are the same.
pub record Fit (n : ℕ) (l : List ℕ) : Type 0 where
  pub below : (i : ℕ) → i < length l → get_or l i 0 < n
  pub apart : (j i : ℕ) → j < i → i < length l → get_or l j 0 ≡ get_or l i 0 → ⊥

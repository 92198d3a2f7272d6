-- The cells of a part list with n points and the lines ls: which lists of corners they are, and all of them in their order.
-- A reader must believe `IsCell` and `Earlier`; that `cell_list` has exactly these cells, each once, is proved in proofs/.
use Rattle.std.specs.Prelude.{◌≡◌, ◌⊎◌, ℕ, zero, suc, ◌≤◌, ◌<◌, length}
use mathlib.Core.List.{List, [], ◌∷◌, ◌++◌, map, Memᴰ as In}
use Rattle.counting.specs.Dictionary.{Before}
use Rattle.partlist.specs.Sorting.{Rising, Compared, compared_numbers, compared_lists, sorted_up}

-- σ is one index below n
pub record IsPoint (n : ℕ) (σ : List ℕ) : Type 0 where
  pub index : ℕ
  pub below : index < n
  pub alone : σ ≡ index ∷ []

-- all members of σ lie in one line
pub record InLine (ls : List (List ℕ)) (σ : List ℕ) : Type 0 where
  pub line : List ℕ
  pub listed : In line ls
  pub subset : (a : ℕ) → In a σ → In a line

-- the corners of a cell: a rising, non-empty list that is a point or a subset of a line
pub record IsCell (n : ℕ) (ls : List (List ℕ)) (σ : List ℕ) : Type 0 where
  pub rising : Rising σ
  pub some : 1 ≤ length σ
  pub origin : IsPoint n σ ⊎ InLine ls σ

-- numbers go by dimension, then by corner list in dictionary order
abbrev pub Earlier : List ℕ → List ℕ → Type 0
Earlier σ τ = Before (length σ ∷ σ) (length τ ∷ τ)

unfoldable pub compared_cells : List ℕ → List ℕ → Compared
compared_cells σ τ = compared_lists (length σ ∷ σ) (length τ ∷ τ)

-- the non-empty parts of a list, in its order
unfoldable pub parts : List ℕ → List (List ℕ)
parts [] = []
parts (a ∷ l) = (a ∷ []) ∷ (map (λ (σ : List ℕ). a ∷ σ) (parts l) ++ parts l)

unfoldable pub points : ℕ → List (List ℕ)
points zero = []
points (suc n) = (n ∷ []) ∷ points n

unfoldable pub line_parts : List (List ℕ) → List (List ℕ)
line_parts [] = []
line_parts (l ∷ ls) = parts (sorted_up compared_numbers l) ++ line_parts ls

-- all cells in their order, each once
unfoldable pub cell_list : ℕ → List (List ℕ) → List (List ℕ)
cell_list n ls = sorted_up compared_cells (points n ++ line_parts ls)

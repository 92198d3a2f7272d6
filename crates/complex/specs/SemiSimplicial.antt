-- Semi-simplicial sets as they were published: families K^p, maps d_0 to d_p from each to the one below, and the law
-- s d_j d_l = s d_l d_(j−1) for l < j (written after the cell, so s d_j d_l is face l of face j of s).
-- And the families and maps of a table. A reader must believe these definitions; nothing here is proved.
use Rattle.std.specs.Prelude.{◌≡◌, List, ℕ, suc, ◌-◌, ◌≤◌, ◌<◌}
use Rattle.std.proofs.Math.Path.{transport}
use Rattle.table.specs.Table.{Live, dim, face}

pub record SemiSimplicial : Type 1 where
  pub K : ℕ → Type 0
  -- face j of a (p+1)-cell, j from 0 to p + 1
  pub d : (p j : ℕ) → j ≤ suc p → K (suc p) → K p
  pub law : (p j l : ℕ) (hl : l < j) (hj : j ≤ suc (suc p)) (l-fits : l ≤ suc p) (l-over : l ≤ suc (suc p)) (j-down : j - 1 ≤ suc p) (s : K (suc (suc p))) → d p l l-fits (d (suc p) j hj s) ≡ d p (j - 1) j-down (d (suc p) l l-over s)

-- a p-cell of a table: the number of a live cell of dimension p
pub record CellOf (t : List ℕ) (p : ℕ) : Type 0 where
  pub number : ℕ
  pub living : Live t number
  pub level : dim t number ≡ p

-- S is the semi-simplicial set of table t: its p-cells are t's, and its maps are t's faces
pub record OfTable (t : List ℕ) (S : SemiSimplicial) : Type 1 where
  pub families : (p : ℕ) → S.K p ≡ CellOf t p
  pub faces : (p j : ℕ) (h : j ≤ suc p) (s : S.K (suc p)) → (transport (families p) (S.d p j h s)).number ≡ face t (transport (families (suc p)) s).number j

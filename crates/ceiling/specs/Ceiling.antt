-- The ceiling of the reducer's additions in one dimension: of n live cells, r have rows with a non-empty boundary.
-- A reader must believe these definitions; nothing here is proved.
use Rattle.std.specs.Prelude.{List, ℕ, ◌-◌, ◌*◌, ◌/◌, ◌≤◌}
use Rattle.homology.specs.Cells.{Cells}
use Rattle.homology.specs.Evidence.{cells_in, bounding_in}
use Rattle.rows.specs.Rows.{rows}
use Rattle.reducer.specs.Rule.{additions_in}

-- r·(2·n − r − 1)/2
unfoldable pub ceiling : ℕ → ℕ → ℕ
ceiling n r = r * (2 * n - r - 1) / 2

-- the ceiling in dimension p, of cells and the rows that the reducer left
unfoldable pub ceiling_in : Cells → List ℕ → ℕ → ℕ
ceiling_in K ev p = ceiling (cells_in K p) (bounding_in K (rows K ev) p)

-- the additions counted, dimension by dimension, do not pass it
pub record UnderCeiling (K : Cells) (ev : List ℕ) (adds : ℕ → ℕ) : Type 0 where
  pub each : (p : ℕ) → additions_in K adds p K.size ≤ ceiling_in K ev p

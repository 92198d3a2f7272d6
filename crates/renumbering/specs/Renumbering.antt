-- The same cells under other numbers: a bijection between the live numbers of two sets of cells that keeps dimension and odd
-- incidence. Numbers that are not live may have any dimension, and the sizes may differ.
-- A reader must believe these definitions; nothing here is proved.
use Rattle.std.specs.Prelude.{◌≡◌, true, ℕ, ◌<◌}
use Rattle.homology.specs.Cells.{Cells}

-- the number of a cell: below the size, and live
pub record CellIn (K : Cells) (c : ℕ) : Type 0 where
  pub below : c < K.size
  pub living : K.live c ≡ true

-- σ gives each cell of K its number in K', τ gives it back
pub record Renumbering (K K' : Cells) (σ τ : ℕ → ℕ) : Type 0 where
  pub there : (c : ℕ) → CellIn K c → CellIn K' (σ c)
  pub back : (d : ℕ) → CellIn K' d → CellIn K (τ d)
  pub there_back : (c : ℕ) → CellIn K c → τ (σ c) ≡ c
  pub back_there : (d : ℕ) → CellIn K' d → σ (τ d) ≡ d
  pub same_dim : (c : ℕ) → CellIn K c → K'.dim (σ c) ≡ K.dim c
  pub same_inc : (c s : ℕ) → CellIn K c → CellIn K s → K'.inc (σ c) (σ s) ≡ K.inc c s

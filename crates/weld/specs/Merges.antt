-- Single merges, one after the other, each accepted; and those of a weld: by dimension from 0 up, rising cell, each cell with the
-- number that is kept for it.
-- A reader must believe these definitions; nothing here is proved.
use Rattle.std.specs.Prelude.{◌≡◌, ◌&&◌, not, List, [], ◌∷◌, ◌++◌, ℕ, zero, suc, eqb}
use Rattle.counting.specs.Counting.{pick}
use Rattle.table.specs.Kind.{dimensions}
use Rattle.table.specs.Table.{cells_of, is_cell}
use Rattle.std.specs.declared.result.Result.TheVariants.{Ok}
use Prim.{tt}
use Rattle.merge.specs.Merge.{merge_verdict, merged}

-- two cells to be merged
pub record Pair : Type 0 where
  pub kept : ℕ
  pub gone : ℕ

-- the merges of the pairs lead from one table to another
pub data Merges : List ℕ → List Pair → List ℕ → Type 0 where
  done : {t : List ℕ} → Merges t [] t
  more :
      {t u : List ℕ} {p : Pair} {ps : List Pair} → merge_verdict t p.kept p.gone ≡ Ok tt →
      Merges (merged t p.kept p.gone) ps u → Merges t (p ∷ ps) u

-- the pairs of the q-cells below n
unfoldable pub merges_in : List ℕ → (ℕ → ℕ) → ℕ → ℕ → List Pair
merges_in t κ q zero = []
merges_in t κ q (suc c) =
    merges_in t κ q c ++ pick (is_cell t q c && not (eqb (κ c) c)) (record { kept = κ c; gone = c } ∷ []) []

-- those of the dimensions below q
unfoldable pub merges_below : List ℕ → (ℕ → ℕ) → ℕ → List Pair
merges_below t κ zero = []
merges_below t κ (suc q) = merges_below t κ q ++ merges_in t κ q (cells_of t)

-- those of every dimension
abbrev pub weld_merges : List ℕ → (ℕ → ℕ) → List Pair
weld_merges t κ = merges_below t κ dimensions

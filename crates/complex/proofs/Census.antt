-- The live cells of a table, counted by dimension, are those of its view. What carries it: one definition under two names. Assumes nothing.
use mathlib.Core.Path.{◌≡◌, refl, ap, fun_ext}
use mathlib.Core.List.{List}
use Prim.Native.Nat.{ℕ}
use Rattle.counting.specs.Counting.{how_many, listed}
use Rattle.homology.specs.Evidence.{cells_in}
use Rattle.table.specs.Kind.{dimensions}
use Rattle.table.specs.Table.{cells_of, is_cell}
use Rattle.complex.specs.Cells.{cells}

cells_counted : (t : List ℕ) (p : ℕ) → how_many (is_cell t p) (cells_of t) ≡ cells_in (cells t) p
unfolding is_cell cells_in
cells_counted t p = refl

pub census_is : (t : List ℕ) → listed dimensions (λ p. how_many (is_cell t p) (cells_of t)) ≡ listed dimensions (cells_in (cells t))
census_is t = ap (listed dimensions) (fun_ext (cells_counted t))

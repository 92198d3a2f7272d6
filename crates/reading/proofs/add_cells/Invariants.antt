-- `reading::add_cells` meets its contract. The invariant: the result is the boundary of the cells passed. Assumes nothing.
use mathlib.Core.Path.{◌≡◌}
use Rattle.table.specs.Table.{cells_of}
use Rattle.reading.specs.Sums.{integers}
use Rattle.reading.specs.Boundary.{coefficient, reached}
use Rattle.reading.proofs.add_cells.Given as goal

abbrev pub invariant-loop-c : goal.invariant-loop-c
invariant-loop-c l = l.res ≡ integers (cells_of l.t) (reached l.t l.p (coefficient l.chain) l.c)

-- `sweep` meets its contract. The invariant: the cells from c on have their facets. The measure: twice the free records, and c; a facet
-- that comes in takes one record, and moves c up by one. Assumes nothing.
use mathlib.Core.Path.{◌≡◌}
use Prim.Native.Nat.{◌+◌, ◌-◌, ◌*◌}
use lib.ListN.{length}
use Rattle.table.specs.Table.{cells_of}
use Rattle.intake.proofs.Facets.{CellsTo}
use Rattle.intake.proofs.sweep.Given as goal

abbrev pub invariant-loop-c : goal.invariant-loop-c
invariant-loop-c l = (length l.t ≡ length l.initial.t) × CellsTo (cells_of l.initial.t) l.initial.t l.before l.t l.m l.c

abbrev pub decreases-loop-c : goal.decreases-loop-c
decreases-loop-c l = 2 * (cells_of l.t - l.m) + l.c

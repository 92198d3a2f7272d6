-- `weld::join_cells` meets its contract. The invariant: the words hold the map with the q-cells below c joined with their images.
-- Assumes nothing.
use Rattle.table.specs.Table.{cells_of}
use Rattle.weld.specs.Joins.{join_cells}
use Rattle.weld.specs.Maps.{Becomes}
use Rattle.weld.proofs.join_cells.Given as goal

abbrev pub invariant-loop-c : goal.invariant-loop-c
invariant-loop-c l = Becomes (cells_of l.t) (join_cells l.t l.q l.c) l.initial.k l.k

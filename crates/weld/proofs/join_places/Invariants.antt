-- `weld::join_places` meets its contract. The invariant: the words hold the map with the places below j joined. Assumes nothing.
use Rattle.table.specs.Table.{cells_of}
use Rattle.weld.specs.Joins.{join_places}
use Rattle.weld.specs.Maps.{Becomes}
use Rattle.weld.proofs.join_places.Given as goal

abbrev pub invariant-loop-j : goal.invariant-loop-j
invariant-loop-j l = Becomes (cells_of l.t) (join_places l.t l.c l.d l.j) l.initial.k l.k

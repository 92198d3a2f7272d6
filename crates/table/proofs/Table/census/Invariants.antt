-- `table::Table::census` meets its contract. The invariant: the array counts the cells below c. Assumes nothing.
use Rattle.counting.proofs.Tallies.{Tally}
use Rattle.table.specs.Kind.{dimensions}
use Rattle.table.specs.Table.{is_cell}
use Rattle.table.proofs.Table.census.Given as goal

abbrev pub invariant-loop-c : goal.invariant-loop-c
invariant-loop-c l = Tally dimensions (is_cell l.t) l.c l.counts

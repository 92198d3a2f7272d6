-- `sheet::count_sides` meets its contract. The invariant: the counters have counted the cells below c. Assumes nothing.
use Rattle.sheet.specs.Sides.{Counted}
use Rattle.sheet.proofs.count_sides.Given as goal

abbrev pub invariant-loop-c : goal.invariant-loop-c
invariant-loop-c l = Counted l.t l.sides l.c

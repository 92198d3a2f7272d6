-- `sheet::count_wings` meets its contract. The invariant: the counters are those of the cells below c and of its places passed.
-- Assumes nothing.
use Rattle.sheet.proofs.Counters.{Counting}
use Rattle.sheet.proofs.count_wings.Given as goal

abbrev pub invariant-loop-f : goal.invariant-loop-f
invariant-loop-f l = Counting l.t l.sides l.c l.f-index

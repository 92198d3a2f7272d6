-- `merge::join` meets its contract. The invariant: the pass stands before record c. Assumes nothing.
use Rattle.merge.specs.Writing.{Begun}
use Rattle.merge.proofs.join.Given as goal

abbrev pub invariant-loop-c : goal.invariant-loop-c
invariant-loop-c l = Begun l.kept l.gone l.initial.t l.t l.c

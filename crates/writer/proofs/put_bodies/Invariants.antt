-- `writer::put_bodies` meets its contract. The invariant: what the cells below c give the bodies stands there. Assumes nothing.
use Rattle.writer.proofs.Filling.{Filling}
use Rattle.writer.proofs.put_bodies.Given as goal

abbrev pub invariant-loop-c : goal.invariant-loop-c
invariant-loop-c l = Filling l.t l.initial.target l.c l.ends l.target

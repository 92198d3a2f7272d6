-- `raise` meets its contract. The invariant: the table is the old one with the cones of the marked cells below s. Assumes nothing.
use Rattle.cone.proofs.Turns.{Raised}
use Rattle.cone.proofs.raising.raise.Given as goal

abbrev pub invariant-loop-s : goal.invariant-loop-s
invariant-loop-s l = Raised l.initial.t l.marks l.t l.s

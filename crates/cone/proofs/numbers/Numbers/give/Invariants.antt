-- `give` meets its contract. The invariant: the apex and the marked cells below s have their numbers. Assumes nothing.
use Rattle.cone.proofs.Numbering.{Giving}
use Rattle.cone.proofs.numbers.Numbers.give.Given as goal

abbrev pub invariant-loop-s : goal.invariant-loop-s
invariant-loop-s l = Giving l.t l.marks l.self l.last l.s

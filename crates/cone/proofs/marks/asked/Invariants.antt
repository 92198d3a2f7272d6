-- `asked` meets its contract. The invariant: `Passed`, what the pass knows before cell c. Assumes nothing.
use Rattle.cone.proofs.Searches.{Passed}
use Rattle.cone.proofs.marks.asked.Given as goal

abbrev pub invariant-loop-c : goal.invariant-loop-c
invariant-loop-c l = Passed l.t l.marks l.c l.leaks l.top

-- `sheet::all_pass` meets its contract. The invariant: every cell below c passes. Assumes nothing.
use Rattle.sheet.proofs.Passing.{passed}
use Rattle.sheet.proofs.all_pass.Given as goal

abbrev pub invariant-loop-c : goal.invariant-loop-c
invariant-loop-c s = passed s.t s.sides s.l s.c

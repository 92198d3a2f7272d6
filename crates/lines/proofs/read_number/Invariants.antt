-- `read_number` meets its contract. The invariant: the digits passed are those of the value so far. Assumes nothing.
use Rattle.lines.proofs.Numbers.{Begun}
use Rattle.lines.proofs.read_number.Given as goal

abbrev pub invariant-loop-k : goal.invariant-loop-k
invariant-loop-k l = Begun l.text l.at l.k l.v

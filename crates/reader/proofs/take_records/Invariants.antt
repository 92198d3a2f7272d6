-- `reader::take_records` meets its contract. The invariant: every record before the next one is taken in, and its number may be `low` at
-- least. Assumes nothing.
use Rattle.reader.proofs.Steps.{Going}
use Rattle.reader.proofs.take_records.Given as goal

abbrev pub invariant-loop : goal.invariant-loop
invariant-loop g l = Going l.n l.file l.p l.t l.at l.low l.counter

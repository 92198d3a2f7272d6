-- `reader::fill` meets its contract. The invariant: every body below p is taken in, and its numbers are in order. Assumes nothing.
use Rattle.reader.specs.Taking.{Taken}
use Rattle.reader.proofs.fill.Given as goal

abbrev pub invariant-loop-p : goal.invariant-loop-p
invariant-loop-p l = Taken l.n l.file l.t l.p 0

-- `writer::body_starts` meets its contract. The invariant: the starts up to p are there. Assumes nothing.
use Rattle.writer.specs.Put.{in_array}
use Rattle.writer.proofs.Starts.{StartsTo}
use Rattle.writer.proofs.body_starts.Given as goal

abbrev pub invariant-loop-p : goal.invariant-loop-p
invariant-loop-p l = StartsTo (in_array l.count-items) l.p l.starts

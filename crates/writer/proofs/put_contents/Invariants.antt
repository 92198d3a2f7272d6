-- `writer::put_contents` meets its contract. The invariant: the entries below p stand after N. Assumes nothing.
use Rattle.sketch.specs.Form.{pieces}
use Rattle.writer.specs.Put.{Put}
use Rattle.writer.proofs.Parts.{entry_of}
use Rattle.writer.proofs.put_contents.Given as goal

abbrev pub invariant-loop-p : goal.invariant-loop-p
invariant-loop-p l = Put l.initial.target l.initial.end (pieces (entry_of l.t) l.p) l.end l.target

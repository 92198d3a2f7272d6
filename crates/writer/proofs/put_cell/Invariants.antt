-- `writer::put_cell` meets its contract. The invariant: the first j faces stand after the number. Assumes nothing.
use Rattle.sketch.specs.Form.{pieces}
use Rattle.writer.specs.Put.{Put}
use Rattle.writer.proofs.Parts.{face_bytes}
use Rattle.writer.proofs.put_cell.Given as goal

abbrev pub invariant-loop-j : goal.invariant-loop-j
invariant-loop-j l = Put l.initial.target l.initial.end (pieces (face_bytes l.t l.c) l.j) l.end l.target

-- `writer::put_cell` meets its contract. The invariant: the first j faces stand after the number. Assumes nothing.
use mathlib.Core.Path.{ap, ◌∙◌}
use native.Mathlib.Omega.{arith}
use Rattle.table.specs.Table.{face}
use Rattle.sketch.proofs.Bytes.{length_two}
use Rattle.sketch.proofs.Sizes.{length_cell}
use Rattle.sketch.specs.Form.{two}
use Rattle.writer.specs.Put.{Put}
use Rattle.writer.proofs.Pasting.{put_as, two_bytes, put_no_piece, put_piece, next_fits, all_put}
use Rattle.writer.proofs.Parts.{record_parts, face_bytes}
use Rattle.writer.proofs.put_cell.Goals as goal
use Rattle.writer.proofs.put_cell.Goals.{After-put-end}

number : (c : After-put-end) → Put c.args.target.now c.args.at (two c.args.c) c.put-end.result c.put-end.new.target
number c = put_as (c.to_le_bytes.ensures ∙ two_bytes _) c.put-end.ensures

pub put-end-requires : goal.put-end-requires
put-end-requires c = omega (arith, c.requires.2, length_cell c.args.t.now c.args.c)

pub loop-j-init : goal.loop-j-init
loop-j-init c = put_no_piece _

pub put-end-requires-in-loop-j : goal.put-end-requires-in-loop-j
put-end-requires-in-loop-j c =
    let a = c.args in
    omega (
      arith,
      next_fits (face_bytes a.t.now a.c) _ (record_parts _ _ _ _ c.dim.ensures c.used-used.ensures.0)
          (number (goal.at.put-end-requires-in-loop-j c).After-put-end) c.loop-j.invariant c.loop-j-test.true c.requires.2,
      length_two (face a.t.now a.c c.loop-j.j),
    )

pub loop-j-preserved : goal.loop-j-preserved
loop-j-preserved c =
    let a = c.args in
    put_piece (face_bytes a.t.now a.c) c.loop-j.invariant
    (put_as (c.to_le_bytes-in-loop-j.ensures ∙ two_bytes _ ∙ ap two c.face.ensures) c.put-end-in-loop-j.ensures)

pub returns : goal.returns
returns c =
    let a = c.args in
    all_put (face_bytes a.t.now a.c) _ (record_parts _ _ _ _ c.dim.ensures c.used-used.ensures.0)
    (number (goal.at.returns c).After-put-end) c.loop-j.invariant (omega arith) (omega arith)

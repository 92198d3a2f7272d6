-- `writer::put_contents` meets its contract. The invariant: the entries below p stand after N. Assumes nothing.
use mathlib.Core.Path.{ap₂, ◌∙◌}
use native.Mathlib.Omega.{arith}
use Rattle.table.specs.Table.{count_of}
use Rattle.sketch.specs.Form.{two, body_start}
use Rattle.sketch.proofs.Sizes.{length_contents, start_fits}
use Rattle.writer.specs.Put.{Put, entry}
use Rattle.writer.proofs.Pasting.{put_as, two_bytes, put_no_piece, put_piece, next_fits, all_put}
use Rattle.writer.proofs.Parts.{length_entry, entry_of, contents_parts}
use Rattle.writer.proofs.put_contents.Goals as goal
use Rattle.writer.proofs.put_contents.Goals.{After-put-end}

number : (c : After-put-end) → Put c.args.target.now 0 (two c.room.result) c.put-end.result c.put-end.new.target
number c = put_as (c.to_le_bytes.ensures ∙ two_bytes _) c.put-end.ensures

pub put-end-requires : goal.put-end-requires
put-end-requires c = omega (arith, length_contents c.args.t.now)

pub loop-p-init : goal.loop-p-init
loop-p-init c = put_no_piece _

pub put_entry-end-requires : goal.put_entry-end-requires
put_entry-end-requires c =
    let t = c.args.t.now in
    let p = c.loop-p.p in (
      omega (
        arith,
        next_fits (entry_of t) _ (contents_parts t _ c.room.ensures) (number (goal.at.put_entry-end-requires c).After-put-end) c.loop-p.invariant c.loop-p-test.true (omega (arith, c.requires.3)),
        length_entry (count_of t p) (body_start (count_of t) p),
      ),
      omega (arith, c.requires.2.each_start p (omega arith), start_fits t p c.requires.0),
    )

pub loop-p-preserved : goal.loop-p-preserved
loop-p-preserved c =
    let taken = c.loop-p-test.true in
    put_piece (entry_of c.args.t.now) c.loop-p.invariant
    (put_as (ap₂ entry (c.requires.1.each _ taken) (c.requires.2.each_start _ (omega arith))) c.put_entry-end.ensures)

pub returns : goal.returns
returns c =
    all_put (entry_of _) _ (contents_parts _ _ c.room.ensures) (number (goal.at.returns c).After-put-end) c.loop-p.invariant (omega arith) (omega arith)

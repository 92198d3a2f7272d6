-- `sheet::mark_faces` meets its contract: each place is that of a face, which is marked. Assumes nothing.
use native.Mathlib.Omega.{arith}
use Rattle.table.proofs.Slices.{taken}
use Rattle.sheet.proofs.Counters.{counting_starts, face_named, mark_turn, counting_ends}
use Rattle.sheet.proofs.mark_faces.Goals as goal

pub loop-f-init : goal.loop-f-init
loop-f-init c = counting_starts _ _ _ c.requires.next.counted

pub bounds-sides-f : goal.bounds-sides-f
bounds-sides-f c =
    omega (arith, (face_named c.requires.next c.faces.ensures c.places.ensures c.loop-f-test.true).living.inside, c.loop-f.invariant.room)

pub loop-f-preserved : goal.loop-f-preserved
loop-f-preserved c =
    mark_turn _ _ _ _ _ c.loop-f.invariant (face_named c.requires.next c.faces.ensures c.places.ensures c.loop-f-test.true) c.requires.lower

pub returns : goal.returns
returns c =
    let m = taken c.args.t.now c.args.c c.faces.ensures c.places.ensures.1 in
    counting_ends _ _ _ _ c.loop-f.invariant (omega (arith, c.places.ensures.0))

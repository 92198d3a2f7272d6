-- `sheet::count_wings` meets its contract: each place is that of a face, and its counter goes up, or is at its end. Assumes nothing.
use mathlib.Core.Bool.{false≢true}
use mathlib.Core.Path.{sym}
use native.Mathlib.Omega.{arith}
use Rattle.table.proofs.Slices.{taken}
use Rattle.sheet.proofs.Counters.{counting_starts, face_named, count_turn, third_place, counting_ends}
use Rattle.sheet.proofs.count_wings.Goals as goal

pub loop-f-init : goal.loop-f-init
loop-f-init c = counting_starts _ _ _ c.requires.next.counted

pub bounds-sides-u : goal.bounds-sides-u
bounds-sides-u c =
    omega (arith, (face_named c.requires.next c.faces.ensures c.places.ensures c.loop-f-test.true).living.inside, c.loop-f.invariant.room)

pub returns-then-sides-u-ge2 : goal.returns-then-sides-u-ge2
returns-then-sides-u-ge2 c =
    let n = c.requires.next in
    let m = taken c.args.t.now c.args.c c.faces.ensures c.places.ensures.1 in (
      λ e. absurd (false≢true e),
      λ _.
          third_place _ _ _ _ _ c.loop-f.invariant (face_named n c.faces.ensures c.places.ensures c.loop-f-test.true) n.inside c.requires.highest
          (omega (arith, c.places.ensures.0)) c.if-sides-u-ge2.true,
    )

pub bounds-sides-u-in-loop-f : goal.bounds-sides-u-in-loop-f
bounds-sides-u-in-loop-f c =
    omega (arith, (face_named c.requires.next c.faces.ensures c.places.ensures c.loop-f-test.true).living.inside, c.loop-f.invariant.room)

pub bounds-sides-u-in-loop-f-2 : goal.bounds-sides-u-in-loop-f-2
bounds-sides-u-in-loop-f-2 c =
    omega (arith, (face_named c.requires.next c.faces.ensures c.places.ensures c.loop-f-test.true).living.inside, c.loop-f.invariant.room)

pub loop-f-preserved : goal.loop-f-preserved
loop-f-preserved c =
    count_turn _ _ _ _ _ c.loop-f.invariant (face_named c.requires.next c.faces.ensures c.places.ensures c.loop-f-test.true) c.if-sides-u-ge2.false

pub returns : goal.returns
returns c =
    let m = taken c.args.t.now c.args.c c.faces.ensures c.places.ensures.1 in
    (λ _. counting_ends _ _ _ _ c.loop-f.invariant (omega (arith, c.places.ensures.0)), λ e. absurd (false≢true (sym e)))

-- `reading::places_sum` meets its contract: the place lies within the record, and what was read there is its face. Assumes nothing.
use mathlib.Core.Path.{◌≡◌, sym, ap, ◌∙◌}
use native.Mathlib.Omega.{arith}
use mir.Syntax.{w64}
use mir.Val.{to_z}
use Prim.Native.Nat.{◌<◌}
use lib.ListN.{get_or, take}
use Rattle.table.specs.Kind.{faces, used}
use Rattle.table.specs.Table.{face}
use Rattle.reading.proofs.SumLaws.{sum_none}
use Rattle.table.proofs.Slices.{taken}
use Rattle.reading.proofs.Incidences.{few_taken, face_here, up_fits, down_fits, counts_up, counts_down, counts_not, all_counted, place_sign}
use Rattle.reading.proofs.places_sum.Goals as goal
use Rattle.reading.proofs.places_sum.Goals.{In-loop-j, then-f-u+then-j-eq0, then-f-u+else-j-eq0, else-f-u}

pub loop-j-init : goal.loop-j-init
loop-j-init c = let a = c.args in sym (sum_none (place_sign a.t.now a.s a.u))

-- the place that the loop is at lies within the record, and what is read there is its face
here : (c : In-loop-j) → (c.loop-j.j < faces) × (get_or (take c.used-places.result c.faces-faces.result) c.loop-j.j 0 ≡ face c.args.t.now c.args.s c.loop-j.j)
here c =
    let a = c.args in
    let e = c.faces-faces.ensures in
    let m = c.used-places.ensures.1 in
    (few_taken a.t.now a.s e m c.loop-j-test.true, face_here a.t.now a.s e m c.loop-j-test.true)

pub overflow_add-sum : goal.overflow_add-sum
overflow_add-sum c =
    let at = here (goal.at.overflow_add-sum c).In-loop-j in
    up_fits c.args.t.now c.args.s c.args.u (to_z w64 c.loop-j.sum-bits) c.loop-j.j _ at.0 at.1 c.loop-j.invariant

pub overflow_sub-sum : goal.overflow_sub-sum
overflow_sub-sum c =
    let at = here (goal.at.overflow_sub-sum c).In-loop-j in
    down_fits c.args.t.now c.args.s c.args.u (to_z w64 c.loop-j.sum-bits) c.loop-j.j _ at.0 at.1 c.loop-j.invariant

pub loop-j-preserved : goal.loop-j-preserved
loop-j-preserved c =
    let a = c.args in
    let z = to_z w64 c.loop-j.sum-bits in
    let at = here (goal.at.loop-j-preserved c).In-loop-j in
    elim c.if-f-u.branch [
      | then-f-u+then-j-eq0 w ↦
          w.sum-is ∙ counts_up a.t.now a.s a.u z c.loop-j.j _ at.0 at.1 c.loop-j.invariant w.if-f-u.true w.if-j-eq0.true
      | then-f-u+else-j-eq0 w ↦
          w.sum-is ∙ counts_down a.t.now a.s a.u z c.loop-j.j _ at.0 at.1 c.loop-j.invariant w.if-f-u.true w.if-j-eq0.false
      | else-f-u w ↦ w.sum-is ∙ counts_not a.t.now a.s a.u z c.loop-j.j _ at.0 at.1 c.loop-j.invariant w.if-f-u.false
    ]

pub returns : goal.returns
returns c =
    let a = c.args in
    let m = taken a.t.now a.s c.faces-faces.ensures c.used-places.ensures.1 in
    all_counted a.t.now a.s a.u c.loop-j.j c.used-places.result (to_z w64 c.loop-j.sum-bits) (c.used-places.ensures.0 ∙ ap used c.dim.ensures)
    (omega (arith, m)) (omega (arith, m)) c.loop-j.invariant

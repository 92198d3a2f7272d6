-- `take_points` meets its contract. The invariant: the points below c are taken in. Assumes nothing.
use mathlib.Core.Path.{refl, ◌∙◌}
use mathlib.Core.List.{[]}
use native.Mathlib.Omega.{arith}
use Rattle.intake.proofs.Points.{points_none, points_more}
use Rattle.intake.proofs.take_points.Goals as goal

pub loop-c-init : goal.loop-c-init
loop-c-init c = (refl, points_none _ _ [] 0 c.requires.2)

pub loop-c-preserved : goal.loop-c-preserved
loop-c-preserved c =
    let l = c.loop-c in
    (c.put.ensures.size ∙ l.invariant.0, points_more _ _ _ l.c l.invariant.1 (omega (arith, c.loop-c-test.true, c.requires.0)) c.put.ensures)

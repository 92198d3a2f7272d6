-- `put_faces` meets its contract. The invariant: the cells from c on have their faces. Assumes nothing.
use mathlib.Core.Path.{refl, ◌∙◌}
use Rattle.intake.proofs.Faces.{facing_none, facing_more, facing_all}
use Rattle.intake.proofs.put_faces.Goals as goal

pub loop-c-init : goal.loop-c-init
loop-c-init c = (refl, facing_none _ _ _)

pub loop-c-preserved : goal.loop-c-preserved
loop-c-preserved c =
    let l = c.loop-c in (
      c.put_faces.ensures.size ∙ l.invariant.0,
      facing_more _ _ _ _ _ l.invariant.1 _ _ c.loop-c-test.true c.face_numbers-numbers.ensures c.put_faces.ensures,
    )

pub returns : goal.returns
returns c = facing_all _ _ _ _ _ c.loop-c.invariant.1 c.loop-c-test.false

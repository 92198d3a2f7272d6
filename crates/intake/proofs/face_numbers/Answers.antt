-- `face_numbers` meets its contract. The invariant: the faces at the places below j are found. Assumes nothing.
use native.Mathlib.Omega.{arith}
use Rattle.intake.proofs.Faces.{faces_more, faces_all}
use Rattle.intake.proofs.face_numbers.Goals as goal

pub loop-j-preserved : goal.loop-j-preserved
loop-j-preserved c =
    let l = c.loop-j in
    faces_more _ _ _ _ l.numbers l.j l.invariant _ _ (omega (arith, c.loop-j-test.true, c.used-j-end.ensures.0))
    (omega (arith, c.loop-j-test.true, c.used-j-end.ensures.1)) c.facet.ensures.corners (rw c.facet.ensures.dim at c.number_of.ensures)

pub returns : goal.returns
returns c =
    let l = c.loop-j in
    faces_all _ _ _ _ l.numbers l.j l.invariant c.record-cell.ensures.0 c.record-cell.ensures.1 (omega (arith, c.loop-j-test.false, c.used-j-end.ensures.0))

-- `face_numbers` meets its contract. The invariant: the faces at the places below j are found. Assumes nothing.
use Rattle.intake.proofs.Faces.{FacesTo}
use Rattle.intake.proofs.face_numbers.Given as goal

abbrev pub invariant-loop-j : goal.invariant-loop-j
invariant-loop-j l = FacesTo l.t l.c l.cell.dim l.cell.faces l.numbers l.j

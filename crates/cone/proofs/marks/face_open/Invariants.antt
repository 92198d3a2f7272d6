-- `face_open` meets its contract. The invariant: the flag says whether one of the faces before the index is not marked. Assumes nothing.
use mathlib.Core.Path.{◌≡◌}
use Rattle.counting.specs.Counting.{some_has}
use Rattle.cone.specs.Parts.{open_face}
use Rattle.cone.proofs.marks.face_open.Given as goal

abbrev pub invariant-loop-f : goal.invariant-loop-f
invariant-loop-f l = l.leaks ≡ some_has (open_face l.t l.marks l.c) l.f-index

-- A valid table gives evidence all that it asks (`Frame`).
-- What carries it: a live cell has a dimension, its used faces name live cells, and its cells are lawful. Assumes nothing.
use mathlib.Core.List.{List}
use Prim.Native.Nat.{ℕ, ◌≤◌}
use native.Mathlib.Omega.{arith}
use borrow.Author.Tests.{leb-true}
use lib.Dec.{eqb, leb}
use Rattle.homology.proofs.Marks.{by_mark}
use Rattle.table.specs.Kind.{top, faces, used}
use Rattle.table.specs.Table.{Valid, dim}
use Rattle.table.proofs.Records.{live_says, live_true}
use Rattle.complex.specs.View.{view_of, Frame}
use Rattle.complex.proofs.Boundary.{valid_is_lawful}

-- no word 0 uses more face words than there are
few_used : (p : ℕ) → used p ≤ faces
few_used p = by_mark (eqb p 0)
    (λ e. rw e (omega arith))
    (λ e. rw e (by_mark (leb p top) (λ g. rw g (omega (arith, leb-true p top g))) (λ g. rw g (omega arith))))

pub valid_is_frame : (t : List ℕ) → Valid t → Frame (view_of t)
valid_is_frame t v = record {
  room = v.sized.room;
  below = λ c e. (live_true t c e).inside;
  low = λ c e. (live_true t c e).low;
  living = λ c h l. live_says t c (record { inside = h; low = l });
  few = λ c e. few_used (dim t c);
  inside = λ c j e h. (v.face_live c j (live_true t c e) h).inside;
  lawful = valid_is_lawful t v;
}

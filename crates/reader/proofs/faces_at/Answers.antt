-- `reader::faces_at` meets its contract. The invariant: the faces below j are those of the file, the others free. Assumes nothing.
use mathlib.Core.Path.{sym, ◌∙◌}
use mathlib.Core.Logic.{⊎_elim}
use borrow.Author.Tests.{lt-ltb, le-ltb}
use native.Mathlib.Omega.{arith}
use Rattle.counting.proofs.Cases.{below_or_not}
use Rattle.reader.specs.Taking.{faces_at}
use Rattle.reader.proofs.faces_at.Goals as goal

pub returns : goal.returns
unfolding faces_at
returns g c k h =
    let i = c.loop-j.invariant in
    let m = g.row.USED in
    ⊎_elim (λ b. i.taken k (omega arith) ∙ sym (rw (lt-ltb k m b))) (λ b. i.free k (omega arith) h ∙ sym (rw (le-ltb k m b)))
    (below_or_not k m)

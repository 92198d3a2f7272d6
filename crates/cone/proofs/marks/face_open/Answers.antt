-- `face_open` meets its contract. The invariant: the flag says whether one of the faces before the index is not marked. Assumes nothing.
use mathlib.Core.Path.{◌≡◌, ap, ◌∙◌}
use mathlib.Core.Bool.{not}
use borrow.Author.Rules.{rules}
use native.Mathlib.Omega.{arith}
use lib.ListN.{length, take}
use lib.Seq.{get_or-take}
use Rattle.bitset.specs.Bits.{member}
use Rattle.counting.specs.Counting.{some_has}
use Rattle.table.specs.Kind.{used as used_of}
use Rattle.table.proofs.Records.{faces_at}
use Rattle.cone.proofs.Searches.{flag_starts, flag_more}
use Rattle.cone.proofs.marks.face_open.Goals as goal
use Rattle.cone.proofs.marks.face_open.Goals.{After-faces-faces}

pub loop-f-init : goal.loop-f-init
loop-f-init c = flag_starts _

-- as many faces are looked at as are used
looked_at : (c : After-faces-faces) → length (take c.used-used.result c.faces-faces.result) ≡ c.used-used.result
looked_at c = search (rules, c.used-used.ensures.1, c.faces-faces.ensures)

pub loop-f-preserved : goal.loop-f-preserved
loop-f-preserved c =
    let i = c.loop-f.f-index in
    let n = looked_at (goal.at.loop-f-preserved c).After-faces-faces in
    flag_more _ _ _ _ c.loop-f.invariant
    (ap not
    (c.has.ensures
    ∙ ap (member _) (get_or-take c.used-used.result c.faces-faces.result i 0 (omega (arith, n, c.loop-f-test.true)) ∙ faces_at _ _ _ c.faces-faces.ensures i (omega (arith, n, c.loop-f-test.true, c.used-used.ensures.1)))))

pub returns : goal.returns
returns c =
    let n = looked_at (goal.at.returns c).After-faces-faces in
    c.loop-f.invariant
    ∙ ap (some_has _) (omega (arith, n, c.loop-f-test.false, c.loop-f.auto.f-index-end) ∙ c.used-used.ensures.0 ∙ ap used_of c.dim.ensures)

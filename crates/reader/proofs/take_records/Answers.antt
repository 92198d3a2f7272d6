-- `reader::take_records` meets its contract. The invariant: every record before the next one is taken in, and its number may be `low` at
-- least. Assumes nothing.
use mathlib.Core.Path.{◌≡◌, refl, ◌∙◌}
use mathlib.Core.Bool.{false}
use Prim.Native.Nat.{◌+◌, ◌≤◌, ◌<◌}
use native.Mathlib.Omega.{arith}
use lib.ListN.{length}
use Rattle.table.specs.Kind.{free_mark}
use Rattle.table.specs.Table.{dim}
use Rattle.table.proofs.Places.{used_fits}
use Rattle.sketch.specs.Form.{record_size}
use Rattle.sketch.specs.Read.{count_in, numbers_fit}
use Rattle.sketch.proofs.Fits.{contents_fit_lem}
use Rattle.reader.proofs.Contents.{record_inside}
use Rattle.reader.proofs.Steps.{refused, going_more}
use Rattle.reader.proofs.Bodies.{body_begins, body_ends}
use Rattle.reader.proofs.take_records.Given.{Over}
use Rattle.reader.proofs.take_records.Goals as goal
use Rattle.reader.proofs.take_records.Goals.{After-two_at-c, In-loop, then-c-low-via-then-c-low, then-c-low-via-else-c-low+then-c-n, then-c-low-via-else-c-low+else-c-n+then-dim}

-- the turn's record is one of the body, so it lies inside the file
counted : (g : Over) (c : In-loop g) → c.loop.counter < count_in c.args.file.now c.args.p
counted g c = omega (arith, c.loop-test.true, c.count_in-end.ensures)

inside : (g : Over) (c : In-loop g) → c.loop.at + record_size c.args.p ≤ length c.args.file.now
inside g c =
    record_inside _ c.args.n _ _ _ c.requires.1 c.requires.0 (counted g c) c.loop.invariant.place

-- a number that fails one of the three tests is not in order
fails :
    (g : Over) (c : After-two_at-c g) →
    (c.loop.low ≤ c.two_at-c.result → c.two_at-c.result < c.args.n → dim c.loop.t c.two_at-c.result ≡ free_mark → ⊥) →
    numbers_fit c.args.n c.args.file.now ≡ false
fails g c wrong =
    let l = c.loop in
    refused _ _ _ l.t l.at l.low l.counter l.invariant c.requires.0 c.two_at-c.result (omega (arith, c.loop-test.true, c.count_in-end.ensures)) c.two_at-c.ensures wrong

pub offset_in-at-requires : goal.offset_in-at-requires
offset_in-at-requires g c = ((contents_fit_lem _ _ c.requires.1).long, c.requires.0)

pub count_in-end-requires : goal.count_in-end-requires
count_in-end-requires g c = ((contents_fit_lem _ _ c.requires.1).long, c.requires.0)

pub loop-init : goal.loop-init
loop-init g c =
    body_begins _ _ _ _ _ (c.offset_in-at.ensures ∙ (contents_fit_lem _ _ c.requires.1).offset _ c.requires.0) c.requires.2

pub two_at-c-requires : goal.two_at-c-requires
two_at-c-requires g c = omega (arith, inside g (goal.at.two_at-c-requires g c).In-loop)

pub returns-then-c-low : goal.returns-then-c-low
returns-then-c-low g c =
    let before = (goal.at.returns-then-c-low g c).After-two_at-c in (
      refl,
      elim c.then-c-low.branch [
        | then-c-low-via-then-c-low w ↦ fails g before (λ low high free. omega (arith, low, w.if-c-low.true))
        | then-c-low-via-else-c-low+then-c-n w ↦ fails g before (λ low high free. omega (arith, high, w.if-c-n.true))
        | then-c-low-via-else-c-low+else-c-n+then-dim w ↦ fails g before (λ low high free. omega (arith, free, w.dim.ensures, w.if-dim.true))
      ],
    )

pub faces_at-faces-requires : goal.faces_at-faces-requires
faces_at-faces-requires g c =
    (omega (arith, inside g (goal.at.faces_at-faces-requires g c).In-loop, c.requires.3), omega (arith, c.requires.3, used_fits c.args.p))

pub overflow_add-at : goal.overflow_add-at
overflow_add-at g c = omega (arith, inside g (goal.at.overflow_add-at g c).In-loop, c.requires.3, c.face_place-at.ensures)

pub loop-preserved : goal.loop-preserved
loop-preserved g c =
    let l = c.loop in
    going_more _ _ _ l.t l.at l.low l.counter l.invariant c.requires.0 c.two_at-c.result _ _ _ c.faces_at-faces.result c.two_at-c.ensures
    c.if-c-low.false
    (omega (arith, c.if-c-n.false))
    (omega (arith, c.dim.ensures, c.if-dim.false))
    c.requires.3
    c.face_place-at.ensures
    c.faces_at-faces.ensures
    c.put.ensures

pub returns : goal.returns
returns g c =
    let l = c.loop in
    body_ends _ _ _ _ l.at l.low l.counter _ (omega arith) c.loop-test.false c.count_in-end.ensures l.invariant

-- `audit::clears_as` meets its contract: where no comparison differed, the cell breaks nothing.
-- Assumes nothing.
use mathlib.Core.Path.{◌≡◌, sym, ◌∙◌}
use Prim.Native.Nat.{ℕ, ◌-◌, ◌<◌}
use native.Mathlib.Omega.{arith}
use borrow.Author.Rules.{rules}
use lib.ListN.{get_or, take}
use Rattle.table.specs.Kind.{free_mark}
use Rattle.table.specs.Table.{dim}
use borrow.Author.Tests.{eqb-true}
use Rattle.audit.proofs.Clearing.{one_more, all_equal, first_ones, last_ones}
use borrow.Author.Count.{below_more}
use Rattle.audit.proofs.Records.{Cell}
use Rattle.audit.proofs.clears_as.Goals as goal
use Rattle.audit.proofs.clears_as.Goals.{At-loop-f, At-loop-f-3}

-- the cell as it is read
cell : (c : At-loop-f) → Cell c.args.t.now c.args.n c.args.c c.args.p c.args.used c.args.places c.faces-faces.result
cell c = search rules

pub loop-f-preserved : goal.loop-f-preserved
loop-f-preserved c = one_more _ _ _ _ _ _ c.loop-f.invariant (λ e. e)

pub loop-f-2-preserved : goal.loop-f-2-preserved
loop-f-2-preserved c = below_more (λ k. get_or (take c.args.used c.faces-faces.result) k 0 < c.args.n) c.loop-f-2.f-index c.loop-f-2.invariant c.if-f-n.false

pub loop-f-3-preserved : goal.loop-f-3-preserved
loop-f-3-preserved c = one_more _ _ _ _ _ _ c.loop-f-3.invariant (λ e. sym c.dim.ensures ∙ e)

-- every used face lies inside the table
inside : (c : At-loop-f-3) → Cell c.args.t.now c.args.n c.args.c c.args.p c.args.used c.args.places c.faces-faces.result → (j : ℕ) → j < c.args.used → get_or c.faces-faces.result j 0 < c.args.n
inside c h = first_ones h (λ f. f < c.args.n) c.loop-f-2.f-index c.loop-f-2-test.false c.loop-f-2.invariant

pub dim-requires : goal.dim-requires
dim-requires c =
    omega (arith, c.requires.n_value.0, c.loop-f-2.invariant c.loop-f-3.f-index (omega (arith, c.loop-f-2-test.false, c.loop-f-3-test.true)))

pub face-requires : goal.face-requires
face-requires c =
    let h = cell (goal.at.face-requires c).At-loop-f in (
      omega (arith, c.requires.n_value.0, inside (goal.at.face-requires c).At-loop-f-3 h c.loop-j.j (omega (arith, c.loop-j-test.true, h.fewer))),
      omega (arith, c.loop-l-test.true, c.loop-j-test.true, h.fewer, h.fits),
    )

pub face-requires-in-loop-l : goal.face-requires-in-loop-l
face-requires-in-loop-l c =
    let h = cell (goal.at.face-requires-in-loop-l c).At-loop-f in (
      omega (arith, c.requires.n_value.0, inside (goal.at.face-requires-in-loop-l c).At-loop-f-3 h c.loop-l.l (omega (arith, c.loop-l-test.true, c.loop-j-test.true, h.fewer))),
      omega (arith, c.loop-j-test.true, h.fewer, h.fits),
    )

pub loop-l-preserved : goal.loop-l-preserved
loop-l-preserved c = one_more _ _ _ _ _ _ c.loop-l.invariant (λ e. sym c.face.ensures ∙ e ∙ c.face-in-loop-l.ensures)

pub returns : goal.returns
returns c =
    let h = cell (goal.at.returns c).At-loop-f in
    λ e.
    let a = c.loop-j.invariant (eqb-true _ _ e) in
    let d = c.loop-f-3.invariant a.0 in
    let u = c.loop-f.invariant d.0 in
    all_equal h c.requires.p_value.1
    (first_ones h (λ f. f < c.args.n) _ c.loop-f-2-test.false c.loop-f-2.invariant)
    (first_ones h (λ f. dim c.args.t.now f ≡ c.args.p - 1) _ c.loop-f-3-test.false d.1)
    (λ j h. a.1 j (omega arith))
    (last_ones h (λ f. f ≡ free_mark) _ c.loop-f-test.false u.1)

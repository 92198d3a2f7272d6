-- `take_facets` meets its contract. The invariant: the facets at the places below j are taken in. Assumes nothing.
use mathlib.Core.Path.{◌∙◌}
use Prim.Native.Nat.{◌<◌}
use native.Mathlib.Omega.{arith}
use Rattle.std.proofs.lemmas.Result.{err_from_is_err_and}
use Rattle.table.specs.Kind.{used}
use Rattle.intake.proofs.Facets.{facets_more, facets_full, facets_all, facets_low}
use Rattle.intake.proofs.take_facets.Goals as goal
use Rattle.intake.proofs.take_facets.Goals.{In-loop-j}

-- the place is one of the cell's
place : (i : In-loop-j) → i.loop-j.j < used i.record-cell.result.dim
place i = omega (arith, i.loop-j-test.true, i.used-j-end.ensures.0)

pub returns-then-cell-lt2 : goal.returns-then-cell-lt2
returns-then-cell-lt2 c = facets_low _ _ _ _ _ c.record-cell.ensures.0 c.if-cell-lt2.true c.requires.1

pub returns-in_err-m : goal.returns-in_err-m
returns-in_err-m c =
    let p = err_from_is_err_and c.from_residual.result c.from_residual.ensures.1 in
    let r = c.record-cell.ensures in
    rw (p.1, p.2)
    (facets_full _ _ _ _ _ _ r.0 r.1 c.if-cell-lt2.false _ _ _ c.loop-j.invariant.1 _ (place (goal.at.returns-in_err-m c).In-loop-j) c.facet.ensures.corners _ _
    (rw c.facet.ensures.dim at c.in_err-m.ensures))

pub loop-j-preserved : goal.loop-j-preserved
loop-j-preserved c =
    let r = c.record-cell.ensures in (
      c.take_in.auto.t ∙ c.loop-j.invariant.0,
      facets_more _ _ _ _ _ _ r.0 r.1 c.if-cell-lt2.false _ _ _ c.loop-j.invariant.1 _ (place (goal.at.loop-j-preserved c).In-loop-j) c.facet.ensures.corners _ _
          (rw c.facet.ensures.dim at c.in_ok-m.ensures) (omega (arith, c.in_ok-m.ensures.most, c.loop-j.auto.t)),
    )

pub returns : goal.returns
returns c =
    let r = c.record-cell.ensures in
    facets_all _ _ _ _ _ _ r.0 r.1 c.if-cell-lt2.false _ _ _ c.loop-j.invariant.1 (omega (arith, c.loop-j-test.false, c.used-j-end.ensures.0))

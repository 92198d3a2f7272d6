-- `sweep` meets its contract. The invariant: the cells from c on have their facets. The measure: twice the free records, and c; a facet
-- that comes in takes one record, and moves c up by one. Assumes nothing.
use mathlib.Core.Path.{◌∙◌}
use Prim.Native.Nat.{◌-◌}
use Rattle.std.specs.Prelude.{Ok, Err}
use Rattle.std.proofs.lemmas.Result.{err_from_is_err_and}
use Rattle.intake.proofs.Facets.{cells_more, cells_all, same_room, cells_full}
use Rattle.intake.proofs.sweep.Goals as goal

pub returns-in_err-grown : goal.returns-in_err-grown
returns-in_err-grown c =
    let l = c.loop-c in
    let p = err_from_is_err_and c.from_residual.result c.from_residual.ensures.1 in
    rw (p.1, p.2) (cells_full _ _ _ _ _ _ l.invariant.1 c.loop-c-test.true _ (same_room c.args.t.now l.t c.take_facets.new.t (l.c - 1) l.m (Err c.in_err-grown.field-0.0) l.invariant.0 c.in_err-grown.ensures))

pub loop-c-preserved : goal.loop-c-preserved
loop-c-preserved c =
    let l = c.loop-c in (
      c.take_facets.auto.t ∙ l.invariant.0,
      cells_more _ _ _ _ _ _ l.invariant.1 c.loop-c-test.true _ _ (same_room c.args.t.now l.t c.take_facets.new.t (l.c - 1) l.m (Ok c.in_ok-grown.grown) l.invariant.0 c.in_ok-grown.ensures),
    )

pub returns : goal.returns
returns c = cells_all _ _ _ _ _ _ c.loop-c.invariant.1 c.loop-c-test.false

-- `intake::import` meets its contract: the four grounds in their order, each decided by its own test; what is refused after the length
-- is emptied. Assumes nothing.
use mathlib.Core.Path.{◌≡◌, refl, sym, ◌∙◌}
use mathlib.Core.Bool.{true}
use Prim.{tt}
use lib.ListN.{length, replicate}
use Rattle.std.specs.Prelude.{Ok, Err}
use Rattle.std.proofs.lemmas.Result.{err_from_is_err_and}
use Rattle.table.specs.Kind.{free_mark}
use Rattle.table.specs.Table.{sized}
use Rattle.intake.proofs.Answers.{as_read, imports_length, accepted_sized, cleared, none_kept, imports_full, imports_all, imports_refused, fills_there}
use Rattle.intake.proofs.import.Goals as goal
use Rattle.intake.proofs.import.Goals.{In_ok-empty}

-- once the table is emptied its length is a table's, and every word is the free mark
sized_here : (c : In_ok-empty) → sized c.args.t.now ≡ true
sized_here c = accepted_sized _ (sym c.in_ok-empty.ensures.answer)

free_here : (c : In_ok-empty) → c.empty.new.t ≡ replicate (length c.args.t.now) free_mark
free_here c = cleared c.args.t.now (sized_here c) c.args.t.now _ refl c.in_ok-empty.ensures.left

pub returns-in_err-empty : goal.returns-in_err-empty
returns-in_err-empty c =
    let p = err_from_is_err_and c.from_residual.result c.from_residual.ensures.1 in
    let e = c.in_err-empty.ensures in
    rw (p.1, p.2) (as_read _ _ _ _ (imports_length _ _ _ _ (sym e.answer) e.left))

pub returns-in_err-n : goal.returns-in_err-n
returns-in_err-n c =
    let z = (goal.at.returns-in_err-n c).In_ok-empty in
    let p = err_from_is_err_and c.from_residual-in_err-n.result c.from_residual-in_err-n.ensures.1 in
    rw (p.1, p.2) (as_read _ _ _ _ (imports_refused _ (sized_here z) _ _ (free_here z) _ c.in_err-n.ensures))

pub fill-requires : goal.fill-requires
fill-requires c =
    let z = (goal.at.fill-requires c).In_ok-empty in
    let w = none_kept c.args.t.now (sized_here z) _ c.empty.auto.t (free_here z) in
    let l = c.in_ok-n.ensures in
    (w.0, w.1, l.0, l.1)

pub returns-in-Err : goal.returns-in-Err
returns-in-Err c =
    let z = (goal.at.returns-in-Err c).In_ok-empty in
    let l = c.in_ok-n.ensures.1 in
    let w = fills_there c.args.t.now c.empty.new.t c.empty.auto.t c.args.text.now c.in_ok-n.n c.fill.new.t (Err c.in-Err.why) c.in-Err.ensures in
    rw (c.refused.ensures.answer, w.refusal)
    (as_read _ _ _ _
    (imports_full _ (sized_here z) _ _ _ l.lines l.is_list l.fits (w.full l.lines l.is_list)
    (cleared _ (sized_here z) _ _ (c.fill.auto.t ∙ c.empty.auto.t) c.refused.ensures.left)))

pub returns : goal.returns
returns c =
    let z = (goal.at.returns c).In_ok-empty in
    let l = c.in_ok-n.ensures.1 in
    let w = fills_there c.args.t.now c.empty.new.t c.empty.auto.t c.args.text.now c.in_ok-n.n c.fill.new.t (Ok tt) c.in_default.ensures in
    let k = w l.lines l.is_list in
    as_read _ _ _ _ (imports_all _ (sized_here z) _ _ _ l.lines l.is_list l.fits k.0 k.1)

-- `scan_text` meets its contract. The invariant: the count and some lines are passed, and `fit` says whether their indices fit.
-- The measure: the bytes left. Assumes nothing.
use mathlib.Core.Path.{◌≡◌, refl, subst}
use Rattle.std.specs.Prelude.{Option, Some, None, Err}
use Rattle.std.specs.Option.{ok_or}
use Rattle.std.proofs.lemmas.Result.{err_from_is_err_and}
use Rattle.calls.specs.declared.Refusal.TheVariants.{BadText}
use Rattle.lines.specs.Scans.{LineAt, CountAt, ReadsLine, Opens}
use Rattle.lines.proofs.Wholes.{onto_first, onto_more, line_missing}
use Rattle.lines.proofs.scan_text.Goals as goal
use Rattle.lines.proofs.scan_text.Goals.{In_ok-line}

pub loop-at-init : goal.loop-at-init
loop-at-init c =
    let o : Opens c.args.text.now c.in_ok-n.n c.in_ok-n.start = subst (CountAt c.args.text.now) c.in_ok-n.ensures.ok_part c.read_count.ensures in
    (o, onto_first _ _ _ o)

-- the line that the turn has read
line : (c : In_ok-line) → ReadsLine c.args.text.now c.loop-at.at c.in_ok-line.line c.in_ok-line.next
line c = subst (LineAt c.args.text.now c.loop-at.at) c.in_ok-line.ensures.ok_part c.read_line.ensures

-- the refusal where nothing was read
refused : {A E : Type 0} (o : Option A) (e r : E) → Err r ≡ ok_or o e → r ≡ e
refused None e r h = cc
refused (Some x) e r h = cc

pub returns-in_err-line : goal.returns-in_err-line
returns-in_err-line c =
    let p = err_from_is_err_and c.from_residual-in_err-line.result c.from_residual-in_err-line.ensures.1 in
    rw (p.1, p.2, refused c.read_line.result BadText c.in_err-line.field-0.0 c.in_err-line.ensures.value)
    (line_missing _ _ _ _ c.loop-at.invariant.1 c.loop-at-test.true
    (subst (LineAt c.args.text.now c.loop-at.at) c.in_err-line.ensures.ok_part c.read_line.ensures))

pub loop-at-preserved-then-fit : goal.loop-at-preserved-then-fit
loop-at-preserved-then-fit c =
    let l = c.loop-at.invariant in
    (l.0, rw c.if-fit.true at (onto_more _ _ _ _ l.1 _ _ _ (line (goal.at.loop-at-preserved-then-fit c).In_ok-line) c.fits-fit.ensures))

pub loop-at-preserved : goal.loop-at-preserved
loop-at-preserved c =
    let l = c.loop-at.invariant in
    (l.0, rw c.if-fit.false (rw c.if-fit.false at (onto_more _ _ _ _ l.1 _ _ _ (line (goal.at.loop-at-preserved c).In_ok-line) refl)))

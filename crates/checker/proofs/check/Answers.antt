-- `check` meets its contract: the lengths decide first, then the audit, then the rows. Assumes nothing.
use mathlib.Core.Path.{◌≡◌, sym, ◌∙◌}
use mathlib.Core.Bool.{true}
use Rattle.calls.specs.declared.Refusal.TheVariants.{Length}
use Rattle.std.proofs.lemmas.Result.{err_from_is_err_and}
use Rattle.table.specs.Table.{Valid}
use Rattle.complex.specs.Cells.{cells}
use Rattle.complex.proofs.Frames.{valid_is_frame}
use Rattle.audit.proofs.Valid.{audit_accepts_iff_valid}
use Rattle.rows.specs.Lengths.{lengths_fit}
use Rattle.rows.proofs.Lengths.{fitting_length}
use Rattle.checker.proofs.Accepting.{refused_length, audit_refuses, rows_answer}
use Rattle.checker.proofs.Answers.{refused_answer}
use Rattle.checker.proofs.check.Goals as goal
use Rattle.checker.proofs.check.Goals.{Else-not-lengths_fit, In_ok-audit}

pub returns-then-not-lengths_fit : goal.returns-then-not-lengths_fit
returns-then-not-lengths_fit c =
    let a = c.args in
    refused_answer (cells a.t.now) a.evidence.now _ Length (sym (refused_length a.t.now a.evidence.now (sym c.lengths_fit.ensures ∙ c.if-not-lengths_fit.true)))

-- past that test the lengths fit
fit : (c : Else-not-lengths_fit) → lengths_fit c.args.t.now c.args.evidence.now ≡ true
fit c = sym c.lengths_fit.ensures ∙ c.if-not-lengths_fit.false

pub returns-in_err-audit : goal.returns-in_err-audit
returns-in_err-audit c =
    let a = c.args in
    let p = err_from_is_err_and c.from_residual.result c.from_residual.ensures.1 in
    rw (p.1, p.2)
    (refused_answer (cells a.t.now) a.evidence.now _ _
    (audit_refuses a.t.now a.evidence.now _ (fit (goal.at.returns-in_err-audit c).Else-not-lengths_fit) c.in_err-audit.ensures))

-- where the audit accepts the table is valid
valid : (c : In_ok-audit) → Valid c.args.t.now
valid c = (audit_accepts_iff_valid c.args.t.now).0 (sym c.in_ok-audit.ensures)

pub invariant_of-view : goal.invariant_of-view
invariant_of-view c = record { frame = valid_is_frame _ (valid (goal.at.invariant_of-view c).In_ok-audit) }

pub returns : goal.returns
returns c =
    rows_answer _ _ _ (valid (goal.at.returns c).In_ok-audit)
    (fitting_length c.args.t.now c.args.evidence.now (fit (goal.at.returns c).Else-not-lengths_fit)) c.check_rows.ensures

-- `reading::judge` meets its contract: the lengths decide first, then the audit, then the chain. Assumes nothing.
use Rattle.std.proofs.Common.{rules}
use mathlib.Core.Path.{sym, ◌∙◌}
use Rattle.reading.proofs.Lengths.{lengths_say}
use Rattle.reading.proofs.Judging.{lengths_refused, audit_refused, audit_passed}
use Rattle.reading.proofs.judge.Goals as goal

pub returns-then-not-lengths_fit : goal.returns-then-not-lengths_fit
returns-then-not-lengths_fit c = lengths_refused _ _ _ _ (sym c.lengths_fit.ensures ∙ c.if-not-lengths_fit.true)

pub judge_chain-requires : goal.judge_chain-requires
judge_chain-requires c =
    (lengths_say _ _ _ (sym c.lengths_fit.ensures ∙ c.if-not-lengths_fit.false)).chain

pub returns-in_err-audit : goal.returns-in_err-audit
returns-in_err-audit c =
    let a = c.args in
    search (rules, audit_refused a.t.now a.chain.now a.p a.res.now (sym c.lengths_fit.ensures ∙ c.if-not-lengths_fit.false) _ c.audit.ensures c.in_err-audit.field-0.0 c.in_err-audit.was)

pub returns : goal.returns
returns c =
    audit_passed _ _ _ _ (sym c.lengths_fit.ensures ∙ c.if-not-lengths_fit.false) _ c.audit.ensures _ c.in_ok-audit.was c.judge_chain.ensures

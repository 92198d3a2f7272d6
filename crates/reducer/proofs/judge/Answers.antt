-- `judge` meets its contract: the lengths decide the first ground, the audit the second. Assumes nothing.
use mathlib.Core.Path.{sym, ◌∙◌}
use Rattle.reducer.proofs.Verdicts.{refuses_length, as_audited}
use Rattle.reducer.proofs.judge.Goals as goal

pub returns-then-not-lengths_fit : goal.returns-then-not-lengths_fit
returns-then-not-lengths_fit c = refuses_length _ _ (sym c.lengths_fit.ensures ∙ c.if-not-lengths_fit.true)

pub returns : goal.returns
returns c =
    c.audit.ensures ∙ as_audited _ _ (sym c.lengths_fit.ensures ∙ c.if-not-lengths_fit.false)

-- `audit::empty` meets its contract. Assumes nothing.
use mathlib.Core.Path.{sym, ◌∙◌}
use Rattle.audit.proofs.Verdicts.{empty_accepts, empty_refuses}
use Rattle.audit.specs.Empty.{emptied}
use Rattle.audit.proofs.empty.Goals as goal

pub returns : goal.returns
unfolding emptied
returns c =
    empty_accepts c.args.t.now _ (sym c.fits.ensures ∙ c.if-not-fits.false) (c.fill.ensures.after (λ y e. e))

pub returns-then-not-fits : goal.returns-then-not-fits
returns-then-not-fits c = empty_refuses c.args.t.now (sym c.fits.ensures ∙ c.if-not-fits.true)

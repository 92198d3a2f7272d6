-- `audit::audit` meets its contract: the length decides the first ground, and what the search finds the second.
-- Assumes nothing.
use mathlib.Core.Path.{sym, ap, ◌∙◌}
use Rattle.audit.specs.Audit.{is_sound}
use Rattle.table.proofs.Sizes.{sized_is_sized}
use Rattle.audit.proofs.Verdicts.{audit_accepts, audit_refuses_invalid, audit_refuses_length}
use Rattle.audit.proofs.audit.Goals as goal

pub first_breach-requires : goal.first_breach-requires
first_breach-requires c =
    let t = c.args.t.now in
    sized_is_sized t (sym c.fits.ensures ∙ c.if-not-fits.false)

pub returns-in-None : goal.returns-in-None
returns-in-None c =
    audit_accepts c.args.t.now
    (sym c.fits.ensures ∙ c.if-not-fits.false)
    (ap is_sound (sym c.first_breach.ensures ∙ c.in-None.is))

pub returns-in-Some : goal.returns-in-Some
returns-in-Some c =
    audit_refuses_invalid c.args.t.now c.in-Some.b
    (sym c.fits.ensures ∙ c.if-not-fits.false)
    (sym c.first_breach.ensures ∙ c.in-Some.is)

pub returns-then-not-fits : goal.returns-then-not-fits
returns-then-not-fits c =
    audit_refuses_length c.args.t.now (sym c.fits.ensures ∙ c.if-not-fits.true)

-- `sheet::sheet` meets its contract: the audit's answer decides whether the test is asked. Assumes nothing.
use mathlib.Core.Path.{sym, ◌∙◌}
use Rattle.audit.proofs.Valid.{audit_accepts_iff_valid}
use Rattle.sheet.proofs.sheet.Goals as goal

pub is_sheet-requires : goal.is_sheet-requires
is_sheet-requires c =
    (audit_accepts_iff_valid c.args.t.now).0 (sym c.audit.ensures ∙ c.in_ok-audit.was)

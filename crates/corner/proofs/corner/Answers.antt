-- `corner::corner` meets its contract: where the audit refuses its refusal stands, else the table is valid. Assumes nothing.
use mathlib.Core.Path.{sym, ◌∙◌}
use Rattle.audit.proofs.Valid.{audit_accepts_iff_valid}
use Rattle.corner.proofs.corner.Goals as goal

pub of_valid-requires : goal.of_valid-requires
of_valid-requires c = (audit_accepts_iff_valid _).0 (sym c.audit.ensures ∙ c.in_ok-audit.was)

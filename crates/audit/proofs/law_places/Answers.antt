-- `audit::law_places` meets its contract: each way out rewrites the definition's test by the branch that led there.
-- Assumes nothing.
use mathlib.Core.Path.{sym}
use native.Mathlib.Omega.{arith}
use Rattle.audit.proofs.Places.{law_places_none}
use Rattle.audit.proofs.law_places.Goals as goal

pub returns-then-p-lt2 : goal.returns-then-p-lt2
returns-then-p-lt2 c = (sym (law_places_none _ c.if-p-lt2.true), omega arith)

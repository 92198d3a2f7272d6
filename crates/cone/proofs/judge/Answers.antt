-- `judge` meets its contract: the lengths, then the audit, then the marks. Assumes nothing.
use mathlib.Core.Path.{sym, ◌∙◌}
use native.Mathlib.Omega.{arith}
use Rattle.cone.proofs.Refusals.{few_words}
use Rattle.cone.proofs.judge.Goals as goal

pub asked-requires : goal.asked-requires
asked-requires c =
    few_words c.args.t.now c.args.marks.now (omega arith) (sym c.audit.ensures ∙ c.in_ok-audit.was)

-- `audit::cleared` meets its contract. The invariant: every cell below c breaks nothing. The measure: the cells that are left.
-- Assumes nothing.
use borrow.Author.Rules.{rules}
use Rattle.audit.proofs.Scans.{scan_zero, scan_more}
use Rattle.audit.proofs.cleared.Goals as goal

pub loop-c-init : goal.loop-c-init
loop-c-init c = (search rules, scan_zero _)

pub loop-c-preserved : goal.loop-c-preserved
loop-c-preserved c =
    (search rules, scan_more _ _ c.loop-c.invariant.1 (c.clears.ensures (c.if-not-clears.false)))

-- `scan_text` meets its contract. The invariant: the count and some lines are passed, and `fit` says whether their indices fit.
-- The measure: the bytes left. Assumes nothing.
use Prim.Native.Nat.{◌-◌}
use lib.ListN.{length}
use Rattle.lines.specs.Scans.{Opens}
use Rattle.lines.proofs.Wholes.{Onto}
use Rattle.lines.proofs.scan_text.Given as goal

abbrev pub invariant-loop-at : goal.invariant-loop-at
invariant-loop-at l = Opens l.text l.n l.start × Onto l.text l.n l.at l.fit

abbrev pub decreases-loop-at : goal.decreases-loop-at
decreases-loop-at l = length l.text - l.at

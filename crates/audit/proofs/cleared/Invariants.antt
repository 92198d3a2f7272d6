-- `audit::cleared` meets its contract. The invariant: every cell below c breaks nothing. The measure: the cells that are left.
-- Assumes nothing.
use mathlib.Core.Path.{◌≡◌}
use Prim.Native.Nat.{◌≤◌}
use Rattle.audit.specs.Audit.{scan, cell_breach}
use Rattle.std.specs.declared.option.Option.TheVariants.{None}
use Rattle.audit.proofs.cleared.Given as goal

abbrev pub invariant-loop-c : goal.invariant-loop-c
invariant-loop-c l = (l.c ≤ l.n) × (scan (cell_breach l.t) l.c ≡ None)

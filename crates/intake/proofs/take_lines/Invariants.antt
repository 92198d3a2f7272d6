-- `take_lines` meets its contract. The invariant: the lines up to a place are taken in. The measure: the bytes left. Assumes nothing.
use mathlib.Core.Path.{◌≡◌}
use Prim.Native.Nat.{◌-◌}
use lib.ListN.{length}
use Rattle.table.specs.Table.{cells_of}
use Rattle.intake.proofs.Gatherings.{Reached}
use Rattle.intake.proofs.take_lines.Given as goal

abbrev pub invariant-loop-at : goal.invariant-loop-at
invariant-loop-at l = (length l.t ≡ length l.initial.t) × Reached l.text l.n (cells_of l.initial.t) l.t l.at l.m

abbrev pub decreases-loop-at : goal.decreases-loop-at
decreases-loop-at l = length l.text - l.at

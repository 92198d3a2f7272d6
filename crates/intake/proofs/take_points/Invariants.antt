-- `take_points` meets its contract. The invariant: the points below c are taken in. Assumes nothing.
use mathlib.Core.Path.{◌≡◌}
use lib.ListN.{length}
use Rattle.table.specs.Table.{cells_of}
use Rattle.partlist.specs.Sweep.{points_from}
use Rattle.corners.specs.Scratch.{Kept}
use Rattle.intake.proofs.take_points.Given as goal

abbrev pub invariant-loop-c : goal.invariant-loop-c
invariant-loop-c l = (length l.t ≡ length l.initial.t) × Kept (cells_of l.initial.t) l.t (points_from 0 l.c)

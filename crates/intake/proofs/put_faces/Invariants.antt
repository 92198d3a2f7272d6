-- `put_faces` meets its contract. The invariant: the cells from c on have their faces. Assumes nothing.
use mathlib.Core.Path.{◌≡◌}
use lib.ListN.{length}
use Rattle.table.specs.Table.{cells_of}
use Rattle.intake.proofs.Faces.{Facing}
use Rattle.intake.proofs.put_faces.Given as goal

abbrev pub invariant-loop-c : goal.invariant-loop-c
invariant-loop-c l = (length l.t ≡ length l.initial.t) × Facing (cells_of l.initial.t) l.initial.t l.m l.t l.c

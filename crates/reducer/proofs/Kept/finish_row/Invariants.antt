-- `finish_row` meets its contract. The invariant: whatever the rule gives from here, it gives from the start (`Going`).
-- The measure: the height of the row's boundary. Assumes nothing.
use Rattle.rows.specs.Seen.{cells_of}
use Rattle.reducer.proofs.Heights.{height}
use Rattle.reducer.proofs.RowAdditions.{Going}
use Rattle.reducer.proofs.Kept.finish_row.Given as goal

abbrev pub invariant-loop-m : goal.invariant-loop-m
invariant-loop-m l = Going (cells_of l.view) l.c l.w l.initial.evidence l.b l.evidence l.self.words.now l.self.owner.now l.additions

abbrev pub decreases-loop-m : goal.decreases-loop-m
decreases-loop-m l = height l.b

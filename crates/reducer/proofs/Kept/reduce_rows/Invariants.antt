-- `reduce_rows` meets its contract. The invariant: the work after c rows (`Progress`). Assumes nothing.
use Rattle.rows.specs.Seen.{cells_of}
use Rattle.reducer.proofs.Progress.{Progress}
use Rattle.reducer.proofs.Kept.reduce_rows.Given as goal

abbrev pub invariant-loop-c : goal.invariant-loop-c
invariant-loop-c l = Progress (cells_of l.view) l.c l.evidence l.self.words.now l.self.owner.now l.additions

-- `reading::boundary` meets its contract: a refusal has written nothing, and an accepted chain is added into a cleared result.
-- Assumes nothing.
use Rattle.reading.proofs.Clearing.{all_cleared}
use Rattle.reading.proofs.Judging.{addable}
use Rattle.reading.proofs.boundary.Goals as goal

pub add_cells-requires : goal.add_cells-requires
add_cells-requires c =
    addable _ _ _ _ _ _ c.judge.ensures c.in_ok-judge.was (all_cleared _ _ (c.fill.ensures.after (λ y e. e)))

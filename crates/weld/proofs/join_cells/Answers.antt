-- `weld::join_cells` meets its contract. The invariant: the words hold the map with the q-cells below c joined with their images.
-- Assumes nothing.
use borrow.Author.Rules.{rules}
use Rattle.weld.proofs.Passing.{cells_none, cells_more, cells_ready}
use Rattle.weld.proofs.join_cells.Goals as goal

pub loop-c-init : goal.loop-c-init
loop-c-init c = cells_none _ _ _ c.requires.0.maps

pub join_cell-requires : goal.join_cell-requires
join_cell-requires c = (cells_ready _ _ _ _ _ c.requires.0 c.loop-c.invariant, c.requires.1, search rules)

pub loop-c-preserved : goal.loop-c-preserved
loop-c-preserved c = cells_more _ _ _ _ _ _ c.loop-c.invariant c.join_cell.ensures

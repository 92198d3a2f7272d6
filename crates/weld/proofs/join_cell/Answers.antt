-- `weld::join_cell` meets its contract: a record of another dimension and a cell that is its own image change nothing, and else the
-- places are joined. Assumes nothing.
use mathlib.Core.Path.{◌≡◌, sym, ◌∙◌}
use Rattle.table.specs.Table.{dim}
use Rattle.weld.proofs.Passing.{cell_passed, cell_still, cell_joined, image_there}
use Rattle.weld.proofs.join_cell.Goals as goal
use Rattle.weld.proofs.join_cell.Goals.{After-from-d}

-- past the first test the record is a q-cell
q_cell : (c : After-from-d) → dim c.args.t.now c.args.c ≡ c.args.q
q_cell c = sym c.dim.ensures ∙ c.if-dim-q.false

pub returns-then-dim-q : goal.returns-then-dim-q
returns-then-dim-q c =
    cell_passed _ _ _ _ _ c.requires.0.maps (λ e. c.if-dim-q.true (c.dim.ensures ∙ e))

pub join_places-requires : goal.join_places-requires
join_places-requires c =
    let i = image_there _ _ _ c.requires.1 c.requires.2 (q_cell (goal.at.join_places-requires c).After-from-d) _ _ c.from-d.ensures c.requires.0 in
    (c.requires.0, i.0, i.1, i.2)

pub returns-then-d-c : goal.returns-then-d-c
returns-then-d-c c =
    cell_joined _ _ _ c.requires.1 c.requires.2 (q_cell (goal.at.returns-then-d-c c).After-from-d) _ _ _ c.from-d.ensures c.join_places.ensures

pub returns-else-d-c : goal.returns-else-d-c
returns-else-d-c c =
    cell_still _ _ _ c.requires.1 c.requires.2 (q_cell (goal.at.returns-else-d-c c).After-from-d) _ c.requires.0.maps (sym c.from-d.ensures ∙ c.if-d-c.false)

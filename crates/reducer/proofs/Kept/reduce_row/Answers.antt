-- `reduce_row` meets its contract: the row starts as the cell alone. With that the row of a point is finished; any other has its faces
-- beside it, and is then finished. Assumes nothing.
use mathlib.Core.Path.{sym, ◌∙◌}
use Rattle.reducer.proofs.RowWords.{kept_others}
use Rattle.reducer.proofs.Starts.{point_finished, begun}
use Rattle.reducer.proofs.RowAdditions.{finished_since}
use Rattle.reducer.proofs.Kept.reduce_row.Goals as goal

-- a point
pub returns-then-dim-eq0 : goal.returns-then-dim-eq0
returns-then-dim-eq0 c =
    let a = c.requires in
    point_finished c.args.view.frame.room c.args.view.frame.lawful (c.args.view.frame.below _ a.c_value) a.w_value a.ready c.start_row.ensures
    (sym c.dim.ensures ∙ c.if-dim-eq0.true)

-- the row with its boundary, once the faces are added
pub finish_row-requires-clause-begun : goal.finish_row-requires-clause-begun
finish_row-requires-clause-begun c =
    let a = c.requires in
    begun c.args.view.frame.room c.args.view.frame.lawful (c.args.view.frame.below _ a.c_value) a.w_value a.ready c.start_row.ensures c.add_faces.ensures

pub returns : goal.returns
returns c = finished_since (kept_others _ c.requires.w_value c.start_row.ensures) c.finish_row.ensures

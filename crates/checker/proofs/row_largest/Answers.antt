-- `row_largest` meets its contract: the largest member of the boundary's words is the largest cell of the boundary. Assumes nothing.
use Rattle.rows.specs.Seen.{cells_of}
use Rattle.checker.proofs.LargestMet.{largest_number_lem}
use Rattle.checker.proofs.row_largest.Goals as goal

pub returns : goal.returns
returns c =
    let e = c.args.evidence in
    largest_number_lem (cells_of e.view) e.words.now e.view.frame.lawful c.args.c _ c.largest.result c.row_boundary.ensures c.largest.ensures

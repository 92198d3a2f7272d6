-- `reading::add_cells` meets its contract. The invariant: the result is the boundary of the cells passed. Assumes nothing.
use mathlib.Core.Path.{◌∙◌}
use native.Mathlib.Omega.{arith}
use borrow.Author.Rules.{rules}
use Rattle.reading.proofs.AllCells.{none_reached, cell_fits_back, cell_added_back, cell_passed, all_reached}
use Rattle.reading.proofs.Registers.{zero_back}
use Rattle.std.proofs.Common.{get_or, pos, SFits}
use Rattle.std.specs.Int.{w64}
use Rattle.reading.proofs.add_cells.Goals as goal
use Rattle.reading.proofs.add_cells.Goals.{then-x-ne0, else-x-ne0}

pub loop-c-init : goal.loop-c-init
loop-c-init c = none_reached _ _ _ _ c.requires

pub add_cell-requires : goal.add_cell-requires
add_cell-requires c =
    cell_fits_back _ _ _ _ c.requires _ _ c.loop-c.invariant _ (search rules) c.loop-c-test.true c.if-x-ne0.true
    (omega (arith, c.used-used.ensures.0))

pub loop-c-preserved : goal.loop-c-preserved
loop-c-preserved c =
    let f : SFits w64 (get_or c.args.chain.now c.loop-c.c (pos 0)) = search rules in
    elim c.if-x-ne0.branch [
      | then-x-ne0 w ↦
          cell_added_back _ _ _ _ c.requires _ _ c.loop-c.invariant _ f c.loop-c-test.true w.if-x-ne0.true (omega (arith, c.used-used.ensures.0)) _
          (w.res-is ∙ w.add_cell.ensures)
      | else-x-ne0 w ↦ w.res-is ∙ cell_passed _ _ _ _ c.requires _ _ c.loop-c.invariant (zero_back _ f w.if-x-ne0.false)
    ]

pub returns : goal.returns
returns c = all_reached _ _ _ _ c.requires _ _ c.loop-c.invariant (omega arith) c.loop-c-test.false

-- `table::Table::census` meets its contract. The invariant: the array counts the cells below c. Assumes nothing.
use native.Mathlib.Omega.{arith}
use Rattle.counting.proofs.Tallies.{tally_none, tally_most, tally_listed}
use Rattle.table.proofs.Dimensions.{cell_counted, free_skipped}
use Rattle.table.proofs.Table.census.Goals as goal
use Rattle.table.proofs.Table.census.Goals.{then-p-lt-DIMENSIONS, else-p-lt-DIMENSIONS}

pub loop-c-init : goal.loop-c-init
loop-c-init c = tally_none _ _

pub overflow_add-counts : goal.overflow_add-counts
overflow_add-counts c =
    omega (arith, tally_most c.loop-c.invariant c.dim-p.result c.if-p-lt-DIMENSIONS.true)

pub loop-c-preserved : goal.loop-c-preserved
loop-c-preserved c =
    let i = c.loop-c.invariant in
    let e = c.dim-p.ensures in
    elim c.if-p-lt-DIMENSIONS.branch [
      | then-p-lt-DIMENSIONS w ↦ rw w.counts-is (cell_counted _ _ e i w.if-p-lt-DIMENSIONS.true (record { inside = omega arith; low = omega arith }))
      | else-p-lt-DIMENSIONS w ↦ rw w.counts-is (free_skipped _ _ e i w.if-p-lt-DIMENSIONS.false)
    ]

pub returns : goal.returns
returns c = tally_listed c.loop-c.invariant _ (omega arith)

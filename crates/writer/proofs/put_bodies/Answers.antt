-- `writer::put_bodies` meets its contract. The invariant: what the cells below c give the bodies stands there. Assumes nothing.
use mathlib.Core.Path.{sym}
use Prim.Native.Nat.{◌<◌}
use native.Mathlib.Omega.{arith}
use borrow.Author.Rules.{rules}
use Rattle.table.specs.Table.{cells_of}
use Rattle.writer.proofs.Filling.{filling_none, filling_passed, record_fits, filling_more, all_filled}
use Rattle.writer.proofs.put_bodies.Goals as goal
use Rattle.writer.proofs.put_bodies.Goals.{then-p-lt-DIMENSIONS, else-p-lt-DIMENSIONS}

pub loop-c-init : goal.loop-c-init
loop-c-init c = filling_none _ _ _ (search rules) c.requires.0

pub put_cell-requires : goal.put_cell-requires
put_cell-requires c =
    let inside : c.loop-c.c < cells_of c.args.t.now = omega arith in
    (inside, c.requires.1, record_fits c.loop-c.invariant _ inside (omega arith) (sym c.dim-p.ensures) c.requires.2)

pub loop-c-preserved : goal.loop-c-preserved
loop-c-preserved c =
    let e = sym c.dim-p.ensures in
    elim c.if-p-lt-DIMENSIONS.branch [
      | then-p-lt-DIMENSIONS w ↦ rw (w.target-is, w.ends-is) (filling_more c.loop-c.invariant _ (omega arith) (omega (arith, w.if-p-lt-DIMENSIONS.true)) e c.requires.2 w.put_cell.ensures)
      | else-p-lt-DIMENSIONS w ↦ rw (w.target-is, w.ends-is) (filling_passed c.loop-c.invariant (omega arith))
    ]

pub returns : goal.returns
returns c = all_filled c.requires.2 (omega arith) c.loop-c.invariant

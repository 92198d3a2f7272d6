-- `add_live` meets its contract: a number with a dimension goes into that set, any other into none. Assumes nothing.
use Prim.Native.Nat.{◌≤◌, ◌<◌}
use native.Mathlib.Omega.{arith}
use Rattle.table.specs.Kind.{capacity, top}
use Rattle.rows.specs.Seen.{cells_of}
use Rattle.checker.proofs.LiveSets.{lives_free, lives_toggled}
use Rattle.checker.proofs.add_live.Goals as goal

pub returns-then-p-lt-DIMENSIONS : goal.returns-then-p-lt-DIMENSIONS
returns-then-p-lt-DIMENSIONS c =
    let level : c.dim-p.result ≤ top = omega (arith, c.if-p-lt-DIMENSIONS.true) in
    let small : c.args.c < capacity = omega (arith, c.requires.c_bound, c.args.view.frame.room) in
    rw c.toggle.ensures
    (lives_toggled (cells_of c.args.view) c.args.c c.args.lives.now c.requires.lives c.dim-p.result c.dim-p.ensures
    (c.args.view.frame.living c.args.c c.requires.c_bound (omega (arith, c.dim-p.ensures))) level small)

pub returns-else-p-lt-DIMENSIONS : goal.returns-else-p-lt-DIMENSIONS
returns-else-p-lt-DIMENSIONS c =
    lives_free (cells_of c.args.view) c.args.c c.args.lives.now c.requires.lives c.dim-p.result c.dim-p.ensures (omega (arith, c.if-p-lt-DIMENSIONS.false))

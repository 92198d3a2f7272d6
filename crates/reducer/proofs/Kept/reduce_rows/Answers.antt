-- `reduce_rows` meets its contract. The invariant: the work after c rows (`Progress`). Assumes nothing.
use mathlib.Core.Path.{◌≡◌}
use mathlib.Core.Bool.{true, false}
use native.Mathlib.Omega.{arith}
use Rattle.counting.proofs.Cases.{not_true_false}
use Rattle.rows.specs.Seen.{cells_of}
use Rattle.reducer.proofs.Progress.{progress_first, progress_ready, count_fits, progress_free, progress_live, progress_ends}
use Rattle.reducer.proofs.Kept.reduce_rows.Goals as goal
use Rattle.reducer.proofs.Kept.reduce_rows.Goals.{then-p-lt-DIMENSIONS, else-p-lt-DIMENSIONS}

pub loop-c-init : goal.loop-c-init
loop-c-init c = progress_first (cells_of c.args.view) c.args.evidence.now c.args.self.now.words.now c.args.self.now.owner.now c.requires.roomy c.requires.fresh

pub reduce_row-requires-clause-ready : goal.reduce_row-requires-clause-ready
reduce_row-requires-clause-ready c = progress_ready c.loop-c.invariant (omega arith)

pub overflow_add-additions : goal.overflow_add-additions
overflow_add-additions c =
    let fits = count_fits c.loop-c.invariant c.reduce_row.result (omega (arith, c.args.view.frame.room, c.loop-c-test.true)) c.reduce_row.ensures.few in
    search fits

-- a number with a dimension is live, and one with none is free
pub loop-c-preserved : goal.loop-c-preserved
loop-c-preserved c =
    let i = c.loop-c.invariant in
    let frame = c.args.view.frame in
    elim c.if-p-lt-DIMENSIONS.branch [
      | then-p-lt-DIMENSIONS w ↦
          let live : (cells_of c.args.view).live c.loop-c.c ≡ true = frame.living _ (omega arith) (omega (arith, c.dim-p.ensures, w.if-p-lt-DIMENSIONS.true)) in
          rw (w.evidence-is, w.self-is, w.additions-is) (progress_live i _ c.dim-p.ensures w.if-p-lt-DIMENSIONS.true live w.reduce_row.ensures)
      | else-p-lt-DIMENSIONS w ↦
          let free : (cells_of c.args.view).live c.loop-c.c ≡ false = not_true_false _ (λ e. omega (arith, c.dim-p.ensures, frame.low _ e, w.if-p-lt-DIMENSIONS.false)) in
          rw (w.evidence-is, w.self-is, w.additions-is) (progress_free i (omega arith) free)
    ]

pub returns : goal.returns
returns c = progress_ends c.loop-c.invariant (omega arith)

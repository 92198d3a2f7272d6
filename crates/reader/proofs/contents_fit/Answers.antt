-- `reader::contents_fit` meets its contract. The invariant: every offset below p is where its body starts, and `start` is where body p
-- starts. Assumes nothing.
use mathlib.Core.Path.{sym}
use Prim.Native.Nat.{◌*◌, ◌≤◌}
use borrow.Author.Count.{below_none, below_more}
use native.Mathlib.Omega.{arith}
use Rattle.sketch.specs.Read.{count_in}
use Rattle.sketch.proofs.Sizes.{body_start_zero}
use Rattle.reader.proofs.Contents.{longest_body, body_most, unfit_short, unfit_cells, unfit_offset, fit_if_long, start_more}
use Rattle.reader.proofs.contents_fit.Goals as goal
use Rattle.reader.proofs.contents_fit.Goals.{After-record_size, then-file-lt-CONTENTS-via-then-file-lt-CONTENTS, then-file-lt-CONTENTS-via-else-file-lt-CONTENTS+then-size_in-n}

-- a count has 16 bits and a record 16 bytes at most
fitting : (c : After-record_size) → c.count_in.result * c.record_size.result ≤ longest_body
fitting c = body_most c.count_in.result c.record_size.result (omega arith) c.record_size.ensures.1

pub returns-then-file-lt-CONTENTS : goal.returns-then-file-lt-CONTENTS
returns-then-file-lt-CONTENTS c =
    elim c.then-file-lt-CONTENTS.branch [
      | then-file-lt-CONTENTS-via-then-file-lt-CONTENTS w ↦ unfit_short _ c.args.file.now w.if-file-lt-CONTENTS.true
      | then-file-lt-CONTENTS-via-else-file-lt-CONTENTS+then-size_in-n w ↦
          unfit_cells _ _ w.size_in.result w.size_in.ensures (λ e. omega (arith, e, w.if-size_in-n.true))
    ]

pub loop-p-init : goal.loop-p-init
loop-p-init c =
    record { few = omega arith; start = sym (body_start_zero (count_in c.args.file.now)); offsets = below_none _ }

pub returns-then-offset_in-start : goal.returns-then-offset_in-start
returns-then-offset_in-start c =
    let l = c.loop-p in
    unfit_offset _ _ l.p c.offset_in.result l.start c.loop-p-test.true c.offset_in.ensures l.invariant.start
    (λ e. omega (arith, e, c.if-offset_in-start.true))

pub loop-p-preserved : goal.loop-p-preserved
loop-p-preserved c =
    let i = c.loop-p.invariant in
    record {
      few = omega (arith, fitting (goal.at.loop-p-preserved c).After-record_size);
      start = start_more _ c.loop-p.p c.loop-p.start _ _ i.start c.count_in.ensures c.record_size.ensures.0;
      offsets = below_more _ c.loop-p.p i.offsets (omega (arith, c.offset_in.ensures, c.if-offset_in-start.false, i.start));
    }

pub returns : goal.returns
returns c =
    let l = c.loop-p in
    fit_if_long _ c.args.file.now l.p l.start (omega arith) (omega arith)
    (omega (arith, c.size_in.ensures, c.if-size_in-n.false)) l.invariant.offsets
    l.invariant.start

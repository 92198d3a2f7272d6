-- `writer::body_starts` meets its contract. The invariant: the starts up to p are there. Assumes nothing.
use native.Mathlib.Omega.{arith}
use Rattle.table.specs.Kind.{dimensions}
use Rattle.writer.specs.Put.{in_array}
use Rattle.writer.proofs.Starts.{start_more, starts_first, starts_more, starts_all}
use Rattle.writer.proofs.body_starts.Goals as goal

pub loop-p-init : goal.loop-p-init
loop-p-init c = starts_first _

pub next_start-requires : goal.next_start-requires
next_start-requires c =
    let l = c.loop-p in
    (omega arith, omega (arith, start_more (in_array c.args.counts) l.p dimensions c.loop-p-test.true c.requires, l.invariant.each l.p (omega arith)))

pub loop-p-preserved : goal.loop-p-preserved
loop-p-preserved c = starts_more c.loop-p.invariant _ c.loop-p-test.true c.next_start.ensures

pub returns : goal.returns
returns c = starts_all c.loop-p.invariant c.loop-p-test.false

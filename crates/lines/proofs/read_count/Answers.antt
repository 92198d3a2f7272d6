-- `read_count` meets its contract: the number at the start, and the byte behind it. Assumes nothing.
use Rattle.lines.proofs.Counts.{no_count, count_ended}
use Rattle.lines.proofs.read_count.Goals as goal

pub returns-in_err-n : goal.returns-in_err-n
returns-in_err-n c = rw c.from_residual.ensures (no_count _ c.in_err-n.ensures)

pub returns : goal.returns
returns c = rw c.then_some.ensures (count_ended _ _ _ c.in_ok-n.ensures)

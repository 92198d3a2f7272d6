-- `tell` meets its contract: a table that the reader accepts is valid. Assumes nothing.
use Rattle.std.proofs.Common.{sym, ◌∙◌}
use Rattle.report.proofs.Telling.{left_valid}
use Rattle.report.proofs.tell.Goals as goal

pub count_holes-requires-clause-valid : goal.count_holes-requires-clause-valid
count_holes-requires-clause-valid c = left_valid _ _ _ (sym c.read.ensures.answer ∙ c.in-Ok.is) c.read.ensures.left

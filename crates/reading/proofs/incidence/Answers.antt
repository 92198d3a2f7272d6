-- `reading::incidence` meets its contract: the audit decides first, then the two cells. Assumes nothing.
use Rattle.reading.proofs.Answers.{answer_given}
use Rattle.reading.proofs.incidence.Goals as goal

pub returns : goal.returns
returns c = answer_given _ _ _ _ c.audit.ensures _ c.in_ok-audit.was c.of_cells.ensures

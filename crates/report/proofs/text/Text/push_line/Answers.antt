-- `push_line`: the parts of the line, one after the other. Assumes nothing.
use Rattle.report.proofs.Growing.{line_parts}
use Rattle.report.proofs.text.Text.push_line.Goals as goal

pub returns : goal.returns
returns c = rw (c.push-3.ensures, c.push_number-3.ensures, c.push-2.ensures, c.push_number-2.ensures, c.push.ensures, c.push_number.ensures) (line_parts _ _ _ _)

-- `view::census` meets its contract: the table's count of each dimension is that of its cells. Assumes nothing.
use mathlib.Core.Path.{◌∙◌}
use Rattle.complex.proofs.Census.{census_is}
use Rattle.rows.proofs.view.census.Goals as goal

pub returns : goal.returns
returns c = c.census.ensures ∙ census_is _

-- `kernel::bt_incidence` meets its contract: it hands on what `incidence` ensures. Assumes nothing.
use mathlib.Core.Path.{sym}
use Rattle.kernel.proofs.Telling.{told}
use Rattle.kernel.specs.Face.{value_after}
use Rattle.kernel.proofs.bt_incidence.Goals as goal

pub returns : goal.returns
returns c = told value_after _ _ _ _ _ (sym c.incidence.ensures) c.tell.ensures.answer c.tell.ensures.left

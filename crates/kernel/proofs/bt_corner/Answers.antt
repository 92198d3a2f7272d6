-- `kernel::bt_corner` meets its contract: it hands on what `corner` ensures. Assumes nothing.
use mathlib.Core.Path.{sym}
use Rattle.kernel.proofs.Telling.{told}
use Rattle.kernel.specs.Face.{value_after}
use Rattle.kernel.proofs.bt_corner.Goals as goal

pub returns : goal.returns
returns c = told value_after _ _ _ _ _ (sym c.corner.ensures) c.tell.ensures.answer c.tell.ensures.left

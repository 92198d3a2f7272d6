-- `kernel::bt_boundary` meets its contract: it hands on what `boundary` ensures. Assumes nothing.
use Rattle.kernel.proofs.Telling.{coded}
use Rattle.kernel.proofs.bt_boundary.Goals as goal

pub returns : goal.returns
returns c = coded c.boundary.ensures c.code_of.ensures

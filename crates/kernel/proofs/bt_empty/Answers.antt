-- `kernel::bt_empty` meets its contract: it hands on what `empty` ensures. Assumes nothing.
use Rattle.kernel.proofs.Telling.{coded}
use Rattle.kernel.proofs.bt_empty.Goals as goal

pub returns : goal.returns
returns c = coded c.empty.ensures c.code_of.ensures

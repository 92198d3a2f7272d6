-- `kernel::bt_read` meets its contract: it hands on what `read` ensures. Assumes nothing.
use Rattle.kernel.proofs.Telling.{coded}
use Rattle.kernel.proofs.bt_read.Goals as goal

pub returns : goal.returns
returns c = coded c.read.ensures c.code_of.ensures

-- `kernel::bt_weld` meets its contract: it hands on what `weld` ensures. Assumes nothing.
use Rattle.kernel.proofs.Telling.{filled}
use Rattle.kernel.proofs.bt_weld.Goals as goal

pub returns : goal.returns
returns c = filled _ _ _ _ _ _ _ c.weld.ensures c.tell.ensures

-- `kernel::bt_write` meets its contract: it hands on what `write` ensures. Assumes nothing.
use Rattle.kernel.proofs.Telling.{filled}
use Rattle.kernel.proofs.bt_write.Goals as goal

pub returns : goal.returns
returns c = filled _ _ _ _ _ _ _ c.write.ensures c.tell.ensures

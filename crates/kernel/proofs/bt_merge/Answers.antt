-- `kernel::bt_merge` meets its contract: it hands on what `merge` ensures. Assumes nothing.
use Rattle.kernel.proofs.Telling.{filled}
use Rattle.kernel.proofs.bt_merge.Goals as goal

pub returns : goal.returns
returns c = filled _ _ _ _ _ _ _ c.merge.ensures c.tell.ensures

-- `kernel::bt_cone` meets its contract: it hands on what `cone` ensures. Assumes nothing.
use Rattle.kernel.proofs.Telling.{filled}
use Rattle.kernel.proofs.bt_cone.Goals as goal

pub returns : goal.returns
returns c = filled _ _ _ _ _ _ _ c.cone.ensures c.tell.ensures

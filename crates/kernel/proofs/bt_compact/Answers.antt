-- `kernel::bt_compact` meets its contract: it hands on what `compact` ensures. Assumes nothing.
use Rattle.kernel.proofs.Telling.{compact_coded}
use Rattle.kernel.proofs.bt_compact.Goals as goal

pub returns : goal.returns
returns c =
    compact_coded c.compact.ensures c.code_of.ensures

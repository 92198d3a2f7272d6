-- `kernel::bt_reduce` meets its contract: it hands on what `reduce` ensures. Assumes nothing.
use Rattle.kernel.proofs.Telling.{reduce_coded}
use Rattle.kernel.proofs.bt_reduce.Goals as goal

pub returns : goal.returns
returns c = reduce_coded c.reduce.ensures c.code_of.ensures

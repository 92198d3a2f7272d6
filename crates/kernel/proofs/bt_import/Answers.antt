-- `kernel::bt_import` meets its contract: it hands on what `import` ensures. Assumes nothing.
use Rattle.kernel.proofs.Telling.{coded}
use Rattle.kernel.proofs.bt_import.Goals as goal

pub returns : goal.returns
returns c = coded c.import.ensures c.code_of.ensures

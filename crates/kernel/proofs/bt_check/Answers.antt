-- `kernel::bt_check` meets its contract: it hands on what `check` ensures. Assumes nothing.
use mathlib.Core.Path.{sym, ◌∙◌}
use Rattle.kernel.proofs.Telling.{check_accepted, check_refused}
use Rattle.kernel.proofs.bt_check.Goals as goal

pub returns-in-Ok : goal.returns-in-Ok
returns-in-Ok c = check_accepted _ _ _ _ _ (sym c.in-Ok.is ∙ c.check.ensures)

pub returns-in-Err : goal.returns-in-Err
returns-in-Err c = check_refused _ _ _ _ _ _ (sym c.in-Err.is ∙ c.check.ensures) c.into.ensures

-- `kernel::bt_sheet` meets its contract: it hands on what `sheet` ensures. Assumes nothing.
use mathlib.Core.Path.{refl, sym, ◌∙◌}
use Rattle.kernel.proofs.Telling.{told, told_byte}
use Rattle.kernel.specs.Face.{judged_value}
use Rattle.kernel.proofs.bt_sheet.Goals as goal

pub returns-in-Ok : goal.returns-in-Ok
returns-in-Ok c = told judged_value _ _ _ _ _ (sym c.sheet.ensures ∙ c.in-Ok.is) refl
    (c.from.ensures ∙ told_byte c.in-Ok.sheet _)

pub returns-in-Err : goal.returns-in-Err
returns-in-Err c = told judged_value _ _ _ _ _ (sym c.sheet.ensures ∙ c.in-Err.is) c.into.ensures refl

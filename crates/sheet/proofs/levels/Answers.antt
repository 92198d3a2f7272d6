-- `sheet::levels` meets its contract. The invariant: l is the levels of the cells below c. Assumes nothing.
use mathlib.Core.Path.{sym}
use native.Mathlib.Omega.{arith}
use Rattle.sheet.proofs.Dimensions.{levels_zero, levels_turn}
use Rattle.sheet.proofs.levels.Goals as goal

pub loop-c-init : goal.loop-c-init
loop-c-init c = sym (levels_zero _)

pub loop-c-preserved : goal.loop-c-preserved
loop-c-preserved c =
    levels_turn _ _ _ _ _ _ (omega (arith, c.room-c-end.ensures)) c.loop-c.invariant c.dim.ensures c.level.ensures c.max-l.ensures

-- `sheet::levels` meets its contract. The invariant: l is the levels of the cells below c. Assumes nothing.
use mathlib.Core.Path.{◌≡◌}
use Rattle.sheet.specs.Sides.{levels_below}
use Rattle.sheet.proofs.levels.Given as goal

abbrev pub invariant-loop-c : goal.invariant-loop-c
invariant-loop-c s = s.l ≡ levels_below s.t s.c

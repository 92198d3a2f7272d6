-- `weld::rename_all` meets its contract. The invariant: the records below c are renamed. Assumes nothing.
use mathlib.Core.Path.{◌≡◌}
use Rattle.table.specs.Table.{cells_of}
use Rattle.weld.specs.Maps.{map_of}
use Rattle.weld.proofs.Writing.{partly}
use Rattle.weld.proofs.rename_all.Given as goal

abbrev pub invariant-loop-c : goal.invariant-loop-c
invariant-loop-c l = l.t ≡ partly (map_of (cells_of l.initial.t) l.k) l.initial.t l.c

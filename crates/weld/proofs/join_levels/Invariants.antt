-- `weld::join_levels` meets its contract. The invariant: the levels from q down, done on the words' map, give what all levels give on
-- the first one. Assumes nothing.
use mathlib.Core.Path.{◌≡◌}
use Rattle.table.specs.Table.{cells_of}
use Rattle.weld.specs.Joins.{join_levels}
use Rattle.weld.specs.Maps.{map_of, Ready}
use Rattle.weld.proofs.join_levels.Given as goal

abbrev pub invariant-loop-q : goal.invariant-loop-q
invariant-loop-q l = (Ready l.t l.k) × (join_levels l.t l.q (map_of (cells_of l.t) l.k) ≡ join_levels l.t l.p (map_of (cells_of l.t) l.initial.k))

-- `weld::join_levels` meets its contract. The invariant: the levels from q down, done on the words' map, give what all levels give on
-- the first one. Assumes nothing.
use borrow.Author.Rules.{rules}
use mathlib.Core.Path.{refl, ◌∙◌}
use native.Mathlib.Omega.{arith}
use Rattle.weld.proofs.Passing.{levels_more, levels_all, cells_ready}
use Rattle.weld.proofs.join_levels.Goals as goal

pub loop-q-init : goal.loop-q-init
loop-q-init c = (c.requires.0, refl)

pub loop-q-preserved : goal.loop-q-preserved
loop-q-preserved c =
    let i = c.loop-q.invariant in
    let k = c.join_cells in
    (cells_ready _ _ _ _ _ i.0 k.ensures, levels_more _ _ _ _ (search rules) k.ensures ∙ i.1)

pub returns : goal.returns
returns c =
    let i = c.loop-q.invariant in
    levels_all _ _ _ _ _ (omega (arith, c.loop-q-test.false)) i.0.maps i.1

-- `weld::classes` meets its contract: each step's map is the next one's. Assumes nothing.
use mathlib.Core.Path.{◌∙◌}
use native.Mathlib.Omega.{arith}
use Rattle.weld.proofs.Passing.{becomes_at, pair_ready, levels_weld}
use Rattle.weld.proofs.classes.Goals as goal

pub join_levels-requires : goal.join_levels-requires
join_levels-requires c =
    let p = c.requires in
    let started = becomes_at _ _ _ _ _ p.1 c.own.ensures in
    let paired = becomes_at _ _ _ _ _ (c.own.auto.k ∙ p.1) c.join.ensures in
    (pair_ready _ _ _ _ _ _ p.0 started paired, omega (arith, c.dim.ensures, p.0.first.low))

pub returns : goal.returns
returns c =
    let p = c.requires in
    let started = becomes_at _ _ _ _ _ p.1 c.own.ensures in
    let paired = becomes_at _ _ _ _ _ (c.own.auto.k ∙ p.1) c.join.ensures in
    levels_weld _ _ _ _ _ _ _ _ c.dim.ensures started paired c.join_levels.ensures

-- `merge::merge` meets its contract: a refusal leaves the table; an accepted merge joins the larger into the smaller. Assumes nothing.
use mathlib.Core.Path.{◌≡◌, sym, ◌∙◌}
use native.Mathlib.Omega.{arith}
use Prim.{tt}
use Rattle.std.specs.declared.result.Result.TheVariants.{Ok}
use Rattle.merge.specs.Merge.{merge_verdict}
use Rattle.merge.proofs.Verdicts.{merge_accepted}
use Rattle.merge.proofs.Answers.{ends_accepted, merged_in_order}
use Rattle.merge.proofs.merge.Goals as goal
use Rattle.merge.proofs.merge.Goals.{In_ok-judge}

-- the two are merged
accepted : (c : In_ok-judge) → merge_verdict c.args.t.now c.args.a c.args.b ≡ Ok tt
accepted c = sym c.judge.ensures ∙ c.in_ok-judge.was

pub join-requires : goal.join-requires
join-requires c =
    let m = (merge_accepted _ _ _ (accepted (goal.at.join-requires c).In_ok-judge)).pair in
    let low = c.min-kept.ensures in
    let high = c.max-gone.ensures in
    (omega (arith, low, high, m.different), omega (arith, high, m.first.inside, m.second.inside), m.valid)

pub returns : goal.returns
returns c =
    ends_accepted _ _ _ _ _ (accepted (goal.at.returns c).In_ok-judge) c.min-kept.ensures
    (c.join.ensures ∙ merged_in_order _ _ _ _ _ c.min-kept.ensures c.max-gone.ensures)

-- `merge::judge` meets its contract: what may not be joined is refused so, else the faces decide. Assumes nothing.
use mathlib.Core.Path.{◌≡◌, sym, ◌∙◌}
use Prim.{tt}
use borrow.Author.Rules.{rules}
use borrow.Author.Tests.{not-true, not-false}
use Rattle.audit.specs.Audit.{grounds}
use Rattle.calls.specs.Calls.{verdict}
use Rattle.std.specs.declared.result.Result.TheVariants.{Ok}
use Rattle.merge.specs.Merge.{pair_grounds}
use Rattle.merge.proofs.Pairs.{joined_inside, faces_differ, faces_agree, words_compared, unjoinable_refuses}
use Rattle.merge.proofs.judge.Goals as goal
use Rattle.merge.proofs.judge.Goals.{In_ok-joinable}

-- the two may be joined
accepted : (c : In_ok-joinable) → verdict (grounds c.args.t.now (pair_grounds c.args.t.now c.args.a c.args.b)) ≡ Ok tt
accepted c = sym c.joinable.ensures ∙ c.in_ok-joinable.was

pub returns-in_err-joinable : goal.returns-in_err-joinable
returns-in_err-joinable c =
    search (rules, unjoinable_refuses c.args.t.now c.args.a c.args.b c.in_err-joinable.field-0.0 (sym c.joinable.ensures ∙ c.in_err-joinable.was))

pub faces-x-requires : goal.faces-x-requires
faces-x-requires c = (joined_inside _ _ _ (accepted (goal.at.faces-x-requires c).In_ok-joinable)).0

pub faces-y-requires : goal.faces-y-requires
faces-y-requires c = (joined_inside _ _ _ (accepted (goal.at.faces-y-requires c).In_ok-joinable)).1

pub returns-then-ne : goal.returns-then-ne
returns-then-ne c =
    faces_differ _ _ _ (accepted (goal.at.returns-then-ne c).In_ok-joinable)
    (sym (words_compared _ _ _ _ _ c.faces-x.ensures c.faces-y.ensures) ∙ not-true _ (sym c.if-ne.ensures))

pub returns : goal.returns
returns c =
    faces_agree _ _ _ (accepted (goal.at.returns c).In_ok-joinable)
    (sym (words_compared _ _ _ _ _ c.faces-x.ensures c.faces-y.ensures) ∙ not-false _ (sym c.if-ne.ensures))

-- `weld::weld` meets its contract: a refusal leaves the table, an accepted weld glues the two cells. Assumes nothing.
use mathlib.Core.Path.{◌≡◌, sym, ◌∙◌}
use borrow.Author.Rules.{rules}
use Rattle.std.specs.declared.result.Result.TheVariants.{Ok}
use Prim.{tt}
use Rattle.weld.specs.Call.{weld_verdict}
use Rattle.weld.proofs.Answers.{verdict_is, weld_accepted, ends_refused, ends_accepted}
use Rattle.weld.proofs.weld.Goals as goal
use Rattle.weld.proofs.weld.Goals.{In_ok-joinable}

-- the two are welded
accepted : (c : In_ok-joinable) → weld_verdict c.args.t.now c.args.a c.args.b ≡ Ok tt
accepted c = verdict_is _ _ _ ∙ sym c.joinable.ensures ∙ c.in_ok-joinable.was

pub glue-requires : goal.glue-requires
glue-requires c = weld_accepted _ _ _ (accepted (goal.at.glue-requires c).In_ok-joinable)

pub returns-in_err-joinable : goal.returns-in_err-joinable
returns-in_err-joinable c =
    search (rules, ends_refused c.args.t.now c.args.a c.args.b c.in_err-joinable.field-0.0 (verdict_is _ _ _ ∙ sym c.joinable.ensures ∙ c.in_err-joinable.was))

pub returns : goal.returns
returns c = ends_accepted _ _ _ _ _ (accepted (goal.at.returns c).In_ok-joinable) (search rules) c.glue.ensures

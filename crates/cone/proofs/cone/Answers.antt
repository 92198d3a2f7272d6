-- `cone` meets its contract: what the early grounds refuse is refused so, and the rest is `built`. Assumes nothing.
use mathlib.Core.Path.{sym, ◌∙◌}
use borrow.Author.Rules.{rules}
use Rattle.cone.proofs.Refusals.{refused_early}
use Rattle.cone.proofs.cone.Goals as goal

pub returns-in_err-judge : goal.returns-in_err-judge
returns-in_err-judge c =
    let a = c.args in
    search (rules, refused_early a.t.now a.marks.now c.in_err-judge.field-0.0 (sym c.judge.ensures ∙ c.in_err-judge.was))

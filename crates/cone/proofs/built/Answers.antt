-- `built` meets its contract: the numbers are those of the rule or there are too few, and the table is the coned one. Assumes nothing.
use mathlib.Core.Path.{◌≡◌, sym, ◌∙◌}
use borrow.Author.Rules.{rules}
use Prim.{tt}
use Rattle.std.specs.declared.result.Result.TheVariants.{Ok}
use Rattle.cone.specs.Parts.{Given, room_verdict}
use Rattle.cone.proofs.Refusals.{room_lacks, ready, room_found}
use Rattle.cone.proofs.built.Goals as goal
use Rattle.cone.proofs.built.Goals.{In_ok-give}

room : (c : In_ok-give) → room_verdict c.args.t.now c.args.marks.now ≡ Ok tt
room c = sym c.give.ensures.room ∙ c.in_ok-give.was

given : (c : In_ok-give) → Given c.args.t.now c.args.marks.now c.give.new.self
given c = c.in_ok-give.ensures.given

pub returns-in_err-give : goal.returns-in_err-give
returns-in_err-give c =
    let a = c.args in
    search (rules, room_lacks a.t.now a.marks.now c.requires c.in_err-give.field-0.0 (sym c.give.ensures.room ∙ c.in_err-give.was))

pub raise-requires : goal.raise-requires
raise-requires c =
    let b = (goal.at.raise-requires c).In_ok-give in
    ready _ _ c.requires (room b) _ (given b)

pub returns : goal.returns
returns c =
    let b = (goal.at.returns c).In_ok-give in
    room_found _ _ c.requires (room b) _ (given b) _ c.raise.ensures

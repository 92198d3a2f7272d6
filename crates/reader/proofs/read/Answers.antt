-- `reader::read` meets its contract: the four grounds in their order, each decided by its own test; what is refused after the length
-- is emptied. Assumes nothing.
use mathlib.Core.Path.{◌≡◌, refl, sym, ◌∙◌}
use mathlib.Core.Bool.{true}
use borrow.Author.Rules.{rules}
use Rattle.sketch.specs.Read.{contents_fit}
use Rattle.reader.proofs.Answers.{says_contents, says_more, ends_length, OfCells, of_cells, cleared, starts, ends}
use Rattle.reader.proofs.read.Goals as goal
use Rattle.reader.proofs.read.Goals.{After-room-n, Else-not-contents_fit}

-- the length is a table's, from there on
cells : (o : After-room-n) → OfCells o.args.t.now o.room-n.result
cells o =
    of_cells _ o.empty.new.t _ (sym o.empty.ensures.answer ∙ o.in_ok-empty.was) o.empty.auto.t o.room-n.ensures

-- the contents fit, from there on
contents : (d : Else-not-contents_fit) → true ≡ contents_fit d.room-n.result d.args.file.now
contents d = sym d.if-not-contents_fit.false ∙ d.contents_fit.ensures

pub returns-in_err-empty : goal.returns-in_err-empty
returns-in_err-empty c =
    search (rules, ends_length c.args.t.now c.args.file.now c.empty.new.t c.in_err-empty.field-0.0 (sym c.empty.ensures.answer ∙ c.in_err-empty.was) c.empty.ensures.left)

pub returns-then-not-contents_fit : goal.returns-then-not-contents_fit
returns-then-not-contents_fit c =
    let o = cells (goal.at.returns-then-not-contents_fit c).After-room-n in
    ends o _ _ _ _ (says_contents _ _ (sym c.if-not-contents_fit.true ∙ c.contents_fit.ensures)) refl
    (cleared o _ _ refl c.empty.ensures.left)

pub fill-requires : goal.fill-requires
fill-requires c =
    let at = goal.at.fill-requires c in
    let begun = starts (cells at.After-room-n) _ c.empty.ensures.left in
    (sym (contents at.Else-not-contents_fit), begun.0, begun.1, begun.2)

pub returns-in-Ok : goal.returns-in-Ok
returns-in-Ok c =
    let at = goal.at.returns-in-Ok c in
    ends (cells at.After-room-n) _ _ _ _ (sym c.in-Ok.is ∙ c.fill.ensures.answer ∙ says_more _ _ (contents at.Else-not-contents_fit)) refl
    (rw c.in-Ok.is at c.fill.ensures.table)

pub returns-in-Err : goal.returns-in-Err
returns-in-Err c =
    let at = goal.at.returns-in-Err c in
    let o = cells at.After-room-n in
    ends o _ _ _ _ (sym c.in-Err.is ∙ c.fill.ensures.answer ∙ says_more _ _ (contents at.Else-not-contents_fit)) c.refused.ensures.answer
    (cleared o _ _ (c.fill.auto.t ∙ c.empty.auto.t) c.refused.ensures.left)

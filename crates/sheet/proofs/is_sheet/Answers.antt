-- `sheet::is_sheet` meets its contract: without a level there is no live cell, a third wing says no, and otherwise the counters decide.
-- Assumes nothing.
use mathlib.Core.Path.{sym, ap, ◌∙◌}
use Rattle.sheet.specs.Sides.{all_pass}
use Rattle.sheet.proofs.Counters.{counted_none}
use Rattle.sheet.proofs.Passing.{no_levels_no, crowded_no, sheet_by_counters}
use Rattle.sheet.proofs.is_sheet.Goals as goal

pub returns-then-l-eq0 : goal.returns-then-l-eq0
returns-then-l-eq0 c = sym (no_levels_no _ (sym c.levels-l.ensures ∙ c.if-l-eq0.true))

pub count_sides-requires-clause-counted : goal.count_sides-requires-clause-counted
count_sides-requires-clause-counted c = counted_none _ c.requires.sized.room

pub returns-then-count_sides : goal.returns-then-count_sides
returns-then-count_sides c =
    c.all_pass.ensures
    ∙ ap (λ l. all_pass c.args.t.now l c.count_sides.new.sides) c.levels-l.ensures
    ∙ sheet_by_counters _ _ c.requires (c.count_sides.ensures.0 c.if-count_sides.true) (λ e. c.if-l-eq0.false (c.levels-l.ensures ∙ e))

pub returns-else-count_sides : goal.returns-else-count_sides
returns-else-count_sides c =
    c.if-count_sides.false
    ∙ sym (crowded_no _ c.requires (λ e. c.if-l-eq0.false (c.levels-l.ensures ∙ e)) (c.count_sides.ensures.1 c.if-count_sides.false))

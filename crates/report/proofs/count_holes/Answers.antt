-- `count_holes` meets its contract: the checker accepts what the reducer leaves, and its numbers stand in the lines. Assumes nothing.
use mathlib.Core.Path.{sym, ◌∙◌}
use Rattle.report.proofs.Accepted.{reducer_runs, checker_runs, cells_fit, holes_fit, answers_are_hole_lines}
use Rattle.report.proofs.count_holes.Goals as goal

pub unwrap-requires : goal.unwrap-requires
unwrap-requires c = reducer_runs _ _ _ _ _ _ c.requires.valid c.requires.evidence_len c.reduce.ensures

pub unwrap-counts-requires : goal.unwrap-counts-requires
unwrap-counts-requires c = checker_runs _ _ _ _ _ _ _ c.requires.valid c.requires.evidence_len c.reduce.ensures c.check.ensures

pub lines-requires-clause-few_cells : goal.lines-requires-clause-few_cells
lines-requires-clause-few_cells c = cells_fit _ _ _ _ _ _ _ c.requires.valid c.requires.evidence_len c.reduce.ensures (sym c.unwrap-counts.ensures ∙ c.check.ensures)

pub lines-requires-clause-few_holes : goal.lines-requires-clause-few_holes
lines-requires-clause-few_holes c = holes_fit _ _ _ _ _ _ _ c.requires.valid c.requires.evidence_len c.reduce.ensures (sym c.unwrap-counts.ensures ∙ c.check.ensures)

pub returns-clause-hole_lines : goal.returns-clause-hole_lines
returns-clause-hole_lines c =
    answers_are_hole_lines _ _ _ _ _ _ _ c.requires.valid c.requires.evidence_len c.reduce.ensures (sym c.unwrap-counts.ensures ∙ c.check.ensures) _ c.lines.ensures.text

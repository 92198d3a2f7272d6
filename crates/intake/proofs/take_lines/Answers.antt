-- `take_lines` meets its contract. The invariant: the lines up to a place are taken in. The measure: the bytes left. Assumes nothing.
use mathlib.Core.Path.{refl, subst, ◌∙◌}
use Rattle.std.proofs.lemmas.Result.{err_from_is_err_and}
use Rattle.lines.specs.Scans.{LineAt, ReadsLine}
use Rattle.intake.proofs.Gatherings.{reached_none, line_some, line_fit_small, reached_more, too_many, all_reached}
use Rattle.intake.proofs.take_lines.Goals as goal
use Rattle.intake.proofs.take_lines.Goals.{After-unwrap-line}

-- the line that the turn reads
line : (r : After-unwrap-line) → ReadsLine r.args.text.now r.loop-at.at r.unwrap-line.result.0 r.unwrap-line.result.1
line r = subst (LineAt r.args.text.now r.loop-at.at) r.unwrap-line.ensures r.read_line.ensures

pub loop-at-init : goal.loop-at-init
loop-at-init c = (refl, reached_none _ _ _ _ _ c.requires.3 c.requires.2)

pub unwrap-line-requires : goal.unwrap-line-requires
unwrap-line-requires c = line_some _ _ _ _ _ _ c.loop-at.invariant.1 c.requires.4 c.loop-at-test.true _ c.read_line.ensures

pub of_line-requires-clause-fit : goal.of_line-requires-clause-fit
of_line-requires-clause-fit c =
    rw c.numbers.ensures
    (line_fit_small _ _ _ _ _ _ c.loop-at.invariant.1 c.requires.4 _ _ (line (goal.at.of_line-requires-clause-fit c).After-unwrap-line) c.requires.1)

pub returns-in_err-m : goal.returns-in_err-m
returns-in_err-m c =
    let p = err_from_is_err_and c.from_residual.result c.from_residual.ensures.1 in
    rw (p.1, p.2) (too_many _ _ _ _ _ _ c.loop-at.invariant.1 c.requires.4 _ _ (line (goal.at.returns-in_err-m c).After-unwrap-line) _ _ (rw c.numbers.ensures at c.of_line.ensures) _ _ c.in_err-m.ensures)

pub loop-at-preserved : goal.loop-at-preserved
loop-at-preserved c = (
  c.take_in.auto.t ∙ c.loop-at.invariant.0,
  reached_more _ _ _ _ _ _ c.loop-at.invariant.1 c.requires.4 _ _ (line (goal.at.loop-at-preserved c).After-unwrap-line) _ _ (rw c.numbers.ensures at c.of_line.ensures) _ _ c.in_ok-m.ensures,
)

pub returns : goal.returns
returns c = all_reached _ _ _ _ _ _ c.loop-at.invariant.1 c.loop-at-test.false

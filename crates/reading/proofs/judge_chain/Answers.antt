-- `reading::judge_chain` meets its contract: each way out is the first ground that applies. Assumes nothing.
use mathlib.Core.Path.{sym, ◌∙◌}
use Rattle.reading.proofs.Judging.{dimension_above, too_large, misplaced, chain_passes}
use Rattle.reading.proofs.judge_chain.Goals as goal

pub returns-then-p-gt-TOP : goal.returns-then-p-gt-TOP
returns-then-p-gt-TOP c = dimension_above _ _ _ c.if-p-gt-TOP.true

pub returns-then-not-coefficients_small : goal.returns-then-not-coefficients_small
returns-then-not-coefficients_small c =
    too_large _ _ _ c.requires c.if-p-gt-TOP.false (sym c.coefficients_small.ensures ∙ c.if-not-coefficients_small.true)

pub returns-then-not-coefficients_placed : goal.returns-then-not-coefficients_placed
returns-then-not-coefficients_placed c =
    misplaced _ _ _ c.requires c.if-p-gt-TOP.false (sym c.coefficients_small.ensures ∙ c.if-not-coefficients_small.false)
    (sym c.coefficients_placed.ensures ∙ c.if-not-coefficients_placed.true)

pub returns : goal.returns
returns c =
    chain_passes _ _ _ c.requires c.if-p-gt-TOP.false (sym c.coefficients_small.ensures ∙ c.if-not-coefficients_small.false)
    (sym c.coefficients_placed.ensures ∙ c.if-not-coefficients_placed.false)

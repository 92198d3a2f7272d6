-- `reduce` meets its contract: a refusal changes nothing, and acceptance says what filling asks. Assumes nothing.
use mathlib.Core.Path.{sym, ◌∙◌}
use Rattle.complex.proofs.Frames.{valid_is_frame}
use Rattle.reducer.proofs.Verdicts.{accepted_valid, accepted_long}
use Rattle.reducer.proofs.reduce.Goals as goal

pub invariant_of-fill : goal.invariant_of-fill
invariant_of-fill c = record { frame = valid_is_frame _ (accepted_valid _ _ (sym c.judge.ensures ∙ c.in_ok-judge.was)) }

pub fill-requires : goal.fill-requires
fill-requires c = accepted_long _ _ (sym c.judge.ensures ∙ c.in_ok-judge.was)

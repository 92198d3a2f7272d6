-- `merge::pair_verdict` meets its contract: past the first test both cells are live. Assumes nothing.
use mathlib.Core.Path.{sym, ◌∙◌}
use Rattle.table.proofs.Records.{live_true}
use Rattle.merge.proofs.pair_verdict.Goals as goal

pub dim-requires : goal.dim-requires
dim-requires c = (live_true _ _ (sym c.live.ensures ∙ c.if-not-live.false)).inside

pub dim-requires-2 : goal.dim-requires-2
dim-requires-2 c = (live_true _ _ (sym c.live-else-not-live.ensures ∙ c.if-not-live-2.false)).inside

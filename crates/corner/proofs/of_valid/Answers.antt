-- `corner::of_valid` meets its contract: each way out is one of the answers of CornerAnswers. Assumes nothing.
use mathlib.Core.Path.{◌≡◌, sym, ap, ◌∙◌}
use mathlib.Core.Bool.{true}
use native.Mathlib.Omega.{arith}
use Rattle.table.specs.Table.{live}
use Rattle.std.specs.declared.result.Result.TheVariants.{Ok}
use Rattle.table.proofs.Records.{live_true}
use Rattle.corner.proofs.CornerAnswers.{dead_refused, past_refused, corner_given}
use Rattle.corner.proofs.of_valid.Goals as goal
use Rattle.corner.proofs.of_valid.Goals.{Else-not-live}

-- the cell is live once the test is passed
living : (c : Else-not-live) → live c.args.t.now c.args.c ≡ true
living c = sym c.live.ensures ∙ c.if-not-live.false

pub returns-then-not-live : goal.returns-then-not-live
returns-then-not-live c =
    dead_refused _ _ _ c.requires (sym c.live.ensures ∙ c.if-not-live.true)

pub dim-p-requires : goal.dim-p-requires
dim-p-requires c = (live_true _ _ (living (goal.at.dim-p-requires c).Else-not-live)).inside

pub returns-then-k-p : goal.returns-then-k-p
returns-then-k-p c =
    past_refused _ _ _ c.requires (living (goal.at.returns-then-k-p c).Else-not-live) (omega (arith, c.dim-p.ensures))

pub corner_of-requires-clause-live : goal.corner_of-requires-clause-live
corner_of-requires-clause-live c = live_true _ _ (living (goal.at.corner_of-requires-clause-live c).Else-not-live)

pub returns : goal.returns
returns c =
    ap Ok c.corner_of.ensures
    ∙ corner_given _ _ _ c.requires (living (goal.at.returns c).Else-not-live) (omega (arith, c.dim-p.ensures))

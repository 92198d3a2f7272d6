-- `reading::of_cells` meets its contract: each way out is the first ground that applies. Assumes nothing.
use mathlib.Core.Path.{sym, ap, ◌∙◌}
use Prim.Native.Nat.{ℕ, ◌+◌}
use native.Mathlib.Omega.{arith}
use borrow.Author.Rules.{rules}
use Rattle.table.proofs.Records.{live_true}
use Rattle.reading.proofs.Registers.{back, back_is}
use Rattle.reading.proofs.Answers.{first_dead, second_dead, dimensions_differ, sum_answered}
use Rattle.reading.proofs.of_cells.Goals as goal
use Rattle.reading.proofs.of_cells.Goals.{then-not-live-via-then-not-live, then-not-live-via-else-not-live+then-not-live-2}

pub returns-then-not-live : goal.returns-then-not-live
returns-then-not-live c =
    elim c.then-not-live.branch [
      | then-not-live-via-then-not-live w ↦ first_dead _ _ _ (sym c.live.ensures ∙ w.if-not-live.true)
      | then-not-live-via-else-not-live+then-not-live-2 w ↦
          second_dead _ _ _ (sym c.live.ensures ∙ w.if-not-live.false) (sym w.live-else-not-live.ensures ∙ w.if-not-live-2.true)
    ]

pub dim-requires : goal.dim-requires
dim-requires c = (live_true _ _ (sym c.live.ensures ∙ c.if-not-live.false)).inside

pub dim-requires-2 : goal.dim-requires-2
dim-requires-2 c = (live_true _ _ (sym c.live-else-not-live.ensures ∙ c.if-not-live-2.false)).inside

pub overflow_add-dim : goal.overflow_add-dim
overflow_add-dim c =
    record { fits = omega (arith, c.dim-2.ensures, (live_true _ _ (sym c.live-else-not-live.ensures ∙ c.if-not-live-2.false)).low) }

pub returns-then-dim : goal.returns-then-dim
returns-then-dim c =
    dimensions_differ _ _ _ (sym c.live.ensures ∙ c.if-not-live.false) (sym c.live-else-not-live.ensures ∙ c.if-not-live-2.false)
    (λ q. c.if-dim.true (c.dim.ensures ∙ q ∙ ap (λ (n : ℕ). n + 1) (sym c.dim-2.ensures)))

pub places_sum-requires : goal.places_sum-requires
places_sum-requires c = (live_true _ _ (sym c.live.ensures ∙ c.if-not-live.false)).inside

pub returns : goal.returns
returns c =
    sum_answered _ _ _ (sym c.live.ensures ∙ c.if-not-live.false) (sym c.live-else-not-live.ensures ∙ c.if-not-live-2.false)
    (sym c.dim.ensures ∙ c.if-dim.false ∙ ap (λ (n : ℕ). n + 1) c.dim-2.ensures)
    (back c.places_sum.result) (back_is c.places_sum.result (search rules) ∙ c.places_sum.ensures)

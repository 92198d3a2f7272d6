-- The grounds of an incidence, way by way out of the code.
-- What carries it: the first ground that applies decides. Assumes nothing.
use mathlib.Core.Path.{◌≡◌, sym, ap, ◌∙◌}
use mathlib.Core.Bool.{true, false}
use mathlib.Core.List.{List}
use Prim.Native.Nat.{ℕ, suc, ◌+◌}
use native.Mathlib.Numerals.{add-one}
use borrow.Author.Tests.{eq-eqb, ne_eqb}
use lib.IntN.{ℤ}
use Rattle.table.specs.Table.{dim, live}
use Rattle.audit.specs.Audit.{audit_grounds}
use Rattle.calls.specs.Calls.{verdict, on_verdict}
use Rattle.calls.specs.declared.Refusal.{Refusal}
use Rattle.calls.specs.declared.Refusal.TheVariants.{NotLive, DimensionsDiffer}
use Rattle.calls.specs.Calls.{Verdict}
use Rattle.std.specs.declared.result.Result.TheVariants.{Ok, Err}
use Prim.{tt}
use Rattle.calls.proofs.Grounds.{accepted_first}
use Rattle.std.specs.declared.result.Result.{Result}
use Rattle.reading.specs.Incidence.{incidence_of, cell_grounds, incidence_answer}
use Rattle.reading.specs.Steps.{cells_answer}

module _ (t : List ℕ) (s u : ℕ) where
  pub first_dead : live t s ≡ false → Err NotLive ≡ cells_answer t s u
  unfolding cells_answer
  first_dead e = rw e

  pub second_dead : live t s ≡ true → live t u ≡ false → Err NotLive ≡ cells_answer t s u
  unfolding cells_answer
  second_dead e f = rw (e, f)

  pub dimensions_differ : live t s ≡ true → live t u ≡ true → (dim t s ≡ dim t u + 1 → ⊥) → Err DimensionsDiffer ≡ cells_answer t s u
  unfolding cells_answer
  dimensions_differ e f h =
      rw (e, f, ne_eqb (dim t s) (suc (dim t u)) (λ q. h (q ∙ sym (add-one (dim t u)))))

  pub sum_answered : live t s ≡ true → live t u ≡ true → dim t s ≡ dim t u + 1 → (z : ℤ) → z ≡ incidence_of t s u → Ok z ≡ cells_answer t s u
  unfolding cells_answer
  sum_answered e f h z q =
      rw (e, f, eq-eqb (dim t s) (suc (dim t u)) (h ∙ add-one (dim t u))) (ap Ok q)

  -- a is what the audit answers: where it accepts, the two cells decide
  module _ (a : Verdict) (says : a ≡ verdict (audit_grounds t)) where
    abbrev answered : Verdict → Result ℤ Refusal
    answered v = on_verdict v (Ok (incidence_of t s u)) Err

    pub answer_given : (v : Result ℤ Refusal) → a ≡ Ok tt → v ≡ cells_answer t s u → v ≡ incidence_answer t s u
    unfolding cells_answer
    answer_given v e h = h ∙ ap answered (sym (accepted_first (audit_grounds t) (cell_grounds t s u) (sym says ∙ e)))

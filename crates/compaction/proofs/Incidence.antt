-- The incidence of any two numbers is answered the same under the new numbers, refusals 3 and 5 included.
-- What carries it: every place names the same cell, and a number is live where its new one is. Assumes nothing.
use mathlib.Core.Path.{◌≡◌, refl, ap, ap₂, sym, ◌∙◌}
use mathlib.Core.Bool.{false, ◌&&◌, not}
use mathlib.Core.List.{List}
use mathlib.Core.Logic.{⊎_elim}
use Prim.Native.Nat.{ℕ, zero, suc, ◌<◌}
use native.Mathlib.Omega.{arith}
use lib.IntN.{ℤ, pos, ◌+ℤ◌}
use lib.Dec.{eqb}
use Rattle.counting.specs.Counting.{pick}
use Rattle.table.specs.Kind.{used}
use Rattle.counting.proofs.Cases.{true_or_false, and_left, and_right, not_true_false}
use Rattle.table.specs.Table.{dim, face, Live, live, Valid}
use Rattle.calls.specs.Calls.{verdict, on_verdict}
use Rattle.calls.specs.declared.Refusal.TheVariants.{NotLive, DimensionsDiffer}
use Rattle.calls.specs.Calls.{Verdict}
use Rattle.std.specs.declared.result.Result.TheVariants.{Ok, Err}
use Prim.{tt}
use Rattle.table.proofs.Records.{live_true, live_says, live_or_not}
use Rattle.audit.proofs.Valid.{valid_is_sound, valid_is_sized}
use Rattle.reading.specs.Sums.{sum_to, sign}
use Rattle.reading.specs.Incidence.{incidence_of, incidence_grounds, incidence_answer}
use Rattle.compaction.specs.Compaction.{IsCompaction}
use Rattle.compaction.proofs.Kept.{same_cells, live_there, compaction_valid}
use Rattle.compaction.proofs.SameHoles.{same_place}

sum_below : (n : ℕ) (f g : ℕ → ℤ) → ((j : ℕ) → j < n → f j ≡ g j) → sum_to n f ≡ sum_to n g
unfolding sum_to
sum_below zero f g h = refl
sum_below (suc n) f g h = ap₂ ◌+ℤ◌ (sum_below n f g (λ j l. h j (omega arith))) (h n (omega arith))

-- what a valid table answers: where one of the two is not live, and where both are
not_live_answer : (t : List ℕ) (c s : ℕ) → Valid t → live t c && live t s ≡ false → incidence_answer t c s ≡ Err NotLive
not_live_answer t c s v e = simp (valid_is_sized t v, valid_is_sound t v, e)

dims_decide :
    (t : List ℕ) (c s : ℕ) → Valid t → Live t c → Live t s →
    verdict (incidence_grounds t c s) ≡ pick (not (eqb (dim t c) (suc (dim t s)))) (Err DimensionsDiffer) (Ok tt)
dims_decide t c s v l k = simp (valid_is_sized t v, valid_is_sound t v, live_says t c l, live_says t s k)

module _ (t : List ℕ) (ν : ℕ → ℕ) (u : List ℕ) (valid : Valid t) (x : IsCompaction t ν u) where
  -- of two live cells
  module _ (c s : ℕ) (l : Live t c) (k : Live t s) where
    same_incidence : incidence_of u (ν c) (ν s) ≡ incidence_of t c s
    unfolding incidence_of
    same_incidence =
        ap (λ p. sum_to (used p) (λ j. pick (eqb (face u (ν c) j) (ν s)) (sign j) (pos 0))) (x.kept_dim c l)
        ∙ sum_below (used (dim t c)) (λ j. pick (eqb (face u (ν c) j) (ν s)) (sign j) (pos 0))
        (λ j. pick (eqb (face t c j) s) (sign j) (pos 0))
        (λ j h. ap (λ b. pick b (sign j) (pos 0)) (same_place t ν u valid x c s j l k h))

    same_verdict : verdict (incidence_grounds u (ν c) (ν s)) ≡ verdict (incidence_grounds t c s)
    same_verdict =
        dims_decide u (ν c) (ν s) (compaction_valid t ν u valid x) (live_there t ν u valid x c l) (live_there t ν u valid x s k)
        ∙ ap₂ (λ p q. pick (not (eqb p (suc q))) (Err DimensionsDiffer) (Ok tt)) (x.kept_dim c l) (x.kept_dim s k)
        ∙ sym (dims_decide t c s valid l k)

    live_answer : incidence_answer u (ν c) (ν s) ≡ incidence_answer t c s
    live_answer = ap₂ (λ (v : Verdict) (z : ℤ). on_verdict v (Ok z) Err) same_verdict same_incidence

  -- a number is live exactly where its new one is
  same_live : (c : ℕ) → live u (ν c) ≡ live t c
  same_live c =
      ⊎_elim
      (λ l. live_says u (ν c) (live_there t ν u valid x c l) ∙ sym (live_says t c l))
      (λ dead.
      not_true_false (live u (ν c)) (λ e.
      let m = live_true u (ν c) e in
      omega (arith, x.numbering.free c dead, m.inside, same_cells t ν u valid x, valid.sized.room))
      ∙ sym (not_true_false (live t c) (λ e. dead (live_true t c e))))
      (live_or_not t c)

  -- THEOREM: of any two numbers, refusals 3 and 5 included
  pub same_incidence_answer : (c s : ℕ) → incidence_answer u (ν c) (ν s) ≡ incidence_answer t c s
  same_incidence_answer c s =
      ⊎_elim
      (λ e. live_answer c s (live_true t c (and_left (live t c) (live t s) e)) (live_true t s (and_right (live t c) (live t s) e)))
      (λ e.
      not_live_answer u (ν c) (ν s) (compaction_valid t ν u valid x) (ap₂ ◌&&◌ (same_live c) (same_live s) ∙ e)
      ∙ sym (not_live_answer t c s valid e))
      (true_or_false (live t c && live t s))

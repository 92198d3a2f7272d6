-- The sign of a face place, and the square of places whose two halves cancel.
-- What carries it: the place (j, l) with l < j against (l, j − 1); induction on the side of the square. Assumes nothing.
use mathlib.Core.Path.{◌≡◌, refl, sym, ap, ◌∙◌}
use mathlib.Core.Logic.{⊎_elim}
use Prim.Native.Nat.{ℕ, zero, suc, ◌-◌, ◌%◌, ◌≤◌, ◌<◌}
use native.Mathlib.Omega.{arith}
use borrow.Author.Tests.{eq-eqb, ne_eqb}
use lib.IntN.{ℤ, pos, negsuc, neg_ℤ, ◌+ℤ◌, ◌*ℤ◌, +ℤ_idl, +ℤ_invr, *ℤ_comm}
use Rattle.counting.proofs.Cases.{same_or_not}
use Rattle.reading.specs.Sums.{sum_to, sign}
use Rattle.reading.proofs.Integers.{minus_times, times_regroup}
use Rattle.reading.proofs.SumLaws.{sum_same, sum_of_sums, sum_minus}

pub even_sign : (j : ℕ) → j % 2 ≡ 0 → sign j ≡ pos 1
unfolding sign
even_sign j e = rw (eq-eqb (j % 2) 0 e)

pub odd_sign : (j : ℕ) → (j % 2 ≡ 0 → ⊥) → sign j ≡ negsuc 0
unfolding sign
odd_sign j h = rw (ne_eqb (j % 2) 0 h)

next_sign : (j : ℕ) → sign (suc j) ≡ neg_ℤ (sign j)
next_sign j =
    ⊎_elim
    (λ e. rw (even_sign j e) (odd_sign (suc j) (λ k. omega arith)))
    (λ h. rw (odd_sign j h) (even_sign (suc j) (omega arith)))
    (same_or_not (j % 2) 0)

-- For any numbers at pairs of places, j up to n and l below n, of which those of one half are the others' negatives, the sum is 0.
halves_cancel : (n : ℕ) (b : ℕ → ℕ → ℤ) → ((j l : ℕ) → l ≤ j → j < n → b (suc j) l ≡ neg_ℤ (b l j)) → sum_to (suc n) (λ j. sum_to n (b j)) ≡ pos 0
unfolding sum_to
halves_cancel zero b h = refl
halves_cancel (suc n) b h =
    ap (λ (z : ℤ). z +ℤ sum_to (suc n) (b (suc n))) (sum_of_sums (suc n) (λ j. sum_to n (b j)) (λ j. b j n))
    ∙ ap (λ (z : ℤ). (z +ℤ sum_to (suc n) (λ j. b j n)) +ℤ sum_to (suc n) (b (suc n)))
    (halves_cancel n b (λ j l hl hj. h j l hl (omega arith)))
    ∙ ap (λ (z : ℤ). z +ℤ sum_to (suc n) (b (suc n))) (+ℤ_idl (sum_to (suc n) (λ j. b j n)))
    ∙ ap (λ (z : ℤ). sum_to (suc n) (λ j. b j n) +ℤ z) last
    ∙ +ℤ_invr (sum_to (suc n) (λ j. b j n))
  where
    -- the last row against the last column
    last : sum_to (suc n) (b (suc n)) ≡ neg_ℤ (sum_to (suc n) (λ j. b j n))
    last =
        sum_same (suc n) (b (suc n)) (λ l. neg_ℤ (b l n)) (λ l k. h n l (omega arith) (omega arith))
        ∙ sum_minus (suc n) (λ j. b j n)

-- the numbers with their two signs
abbrev signed : (ℕ → ℕ → ℤ) → ℕ → ℕ → ℤ
signed a j l = sign j *ℤ (sign l *ℤ a j l)

signs_turn : (s r a : ℤ) → neg_ℤ s *ℤ (r *ℤ a) ≡ neg_ℤ (r *ℤ (s *ℤ a))
signs_turn s r a =
    minus_times s (r *ℤ a)
    ∙ ap neg_ℤ (sym (times_regroup s r a) ∙ ap (λ (z : ℤ). z *ℤ a) (*ℤ_comm s r) ∙ times_regroup r s a)

-- Pairs of places with their signs cancel in two: (j, l) with l < j against (l, j − 1).
pub signs_cancel : (n : ℕ) (a : ℕ → ℕ → ℤ) → ((j l : ℕ) → l < j → j ≤ n → a j l ≡ a l (j - 1)) → sum_to (suc n) (λ j. sum_to n (λ l. sign j *ℤ (sign l *ℤ a j l))) ≡ pos 0
signs_cancel n a h = halves_cancel n (signed a) (λ j l hl hj.
    let e : suc j - 1 ≡ j = omega arith in
    ap (λ (z : ℤ). sign (suc j) *ℤ (sign l *ℤ z)) (h (suc j) l (omega arith) (omega arith) ∙ ap (a l) e)
    ∙ ap (λ (z : ℤ). z *ℤ (sign l *ℤ a l j)) (next_sign j)
    ∙ signs_turn (sign j) (sign l) (a l j))

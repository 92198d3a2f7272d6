-- Laws of finite sums of integers: equal summands, a sum of sums, a factor, the exchange of two sums, and a sum of which one
-- summand alone is not 0.
-- What carries them: recursion on the number of summands. Assumes nothing.
use mathlib.Core.Path.{◌≡◌, refl, sym, ap, ◌∙◌}
use mathlib.Core.Logic.{⊎_elim}
use Prim.Native.Nat.{ℕ, zero, suc, ◌+◌, ◌<◌}
use native.Mathlib.Nat.{not-suc-le-zero, le_of_suc-le-suc, eq-or-lt_of_le}
use native.Mathlib.Numerals.{add-one}
use native.Mathlib.Omega.{arith}
use borrow.Author.Tests.{eq-eqb, ne_eqb}
use lib.IntN.{ℤ, pos, neg_ℤ, ◌+ℤ◌, ◌*ℤ◌, +ℤ_idl, +ℤ_idr, *ℤ-zero, *ℤ_comm, neg_ℤ-+ℤ}
use lib.Dec.{eqb}
use Rattle.counting.specs.Counting.{pick}
use Rattle.reading.specs.Sums.{sum_to}
use Rattle.reading.proofs.Integers.{middle, over_times}

pub sum_none : (f : ℕ → ℤ) → sum_to 0 f ≡ pos 0
unfolding sum_to
sum_none f = refl

pub sum_more : (n : ℕ) (f : ℕ → ℤ) → sum_to (suc n) f ≡ sum_to n f +ℤ f n
unfolding sum_to
sum_more n f = refl

-- the same, as a loop counts
pub sum_next : (n : ℕ) (f : ℕ → ℤ) → sum_to (n + 1) f ≡ sum_to n f +ℤ f n
sum_next n f = rw add-one (sum_more n f)

pub sum_same : (n : ℕ) (f g : ℕ → ℤ) → ((i : ℕ) → i < n → f i ≡ g i) → sum_to n f ≡ sum_to n g
unfolding sum_to
sum_same zero f g h = refl
sum_same (suc n) f g h =
    ap (λ (z : ℤ). z +ℤ f n) (sum_same n f g (λ i l. h i (omega arith)))
    ∙ ap (λ (z : ℤ). sum_to n g +ℤ z) (h n (omega arith))

pub sum_zero : (n : ℕ) (f : ℕ → ℤ) → ((i : ℕ) → i < n → f i ≡ pos 0) → sum_to n f ≡ pos 0
unfolding sum_to
sum_zero zero f h = refl
sum_zero (suc n) f h = rw (sum_zero n f (λ i l. h i (omega arith)), h n (omega arith))

pub sum_of_sums : (n : ℕ) (f g : ℕ → ℤ) → sum_to n (λ i. f i +ℤ g i) ≡ sum_to n f +ℤ sum_to n g
unfolding sum_to
sum_of_sums zero f g = refl
sum_of_sums (suc n) f g =
    ap (λ (z : ℤ). z +ℤ (f n +ℤ g n)) (sum_of_sums n f g) ∙ middle (sum_to n f) (sum_to n g) (f n) (g n)

pub sum_minus : (n : ℕ) (f : ℕ → ℤ) → sum_to n (λ i. neg_ℤ (f i)) ≡ neg_ℤ (sum_to n f)
unfolding sum_to
sum_minus zero f = refl
sum_minus (suc n) f = ap (λ (z : ℤ). z +ℤ neg_ℤ (f n)) (sum_minus n f) ∙ sym (neg_ℤ-+ℤ (sum_to n f) (f n))

-- a factor moves into a sum, from either side
pub times_sum : (n : ℕ) (a : ℤ) (f : ℕ → ℤ) → a *ℤ sum_to n f ≡ sum_to n (λ i. a *ℤ f i)
unfolding sum_to
times_sum zero a f = *ℤ-zero a
times_sum (suc n) a f =
    over_times a (sum_to n f) (f n) ∙ ap (λ (z : ℤ). z +ℤ a *ℤ f n) (times_sum n a f)

pub sum_times : (n : ℕ) (f : ℕ → ℤ) (a : ℤ) → sum_to n f *ℤ a ≡ sum_to n (λ i. f i *ℤ a)
sum_times n f a =
    *ℤ_comm (sum_to n f) a ∙ times_sum n a f
    ∙ sum_same n (λ i. a *ℤ f i) (λ i. f i *ℤ a) (λ i l. *ℤ_comm a (f i))

pub sum_exchange : (n m : ℕ) (f : ℕ → ℕ → ℤ) → sum_to n (λ i. sum_to m (f i)) ≡ sum_to m (λ j. sum_to n (λ i. f i j))
unfolding sum_to
sum_exchange zero m f = sym (sum_zero m (λ j. pos 0) (λ j l. refl))
sum_exchange (suc n) m f =
    ap (λ (z : ℤ). z +ℤ sum_to m (f n)) (sum_exchange n m f)
    ∙ sym (sum_of_sums m (λ j. sum_to n (λ i. f i j)) (f n))

-- only the summand at s counts
pub sum_at : (n s : ℕ) (g : ℕ → ℤ) → s < n → sum_to n (λ k. pick (eqb s k) (g k) (pos 0)) ≡ g s
unfolding sum_to
sum_at zero s g h = absurd (not-suc-le-zero h)
sum_at (suc n) s g h =
    ⊎_elim
    (λ e.
    ap (λ (z : ℤ). z +ℤ pick (eqb s n) (g n) (pos 0))
    (sum_zero n (λ k. pick (eqb s k) (g k) (pos 0)) (λ k l. rw (ne_eqb s k (λ q. omega arith)) refl))
    ∙ +ℤ_idl (pick (eqb s n) (g n) (pos 0)) ∙ rw (eq-eqb s n e) (ap g (sym e)))
    (λ l.
    ap (λ (z : ℤ). z +ℤ pick (eqb s n) (g n) (pos 0)) (sum_at n s g l)
    ∙ rw (ne_eqb s n (λ q. omega arith)) (+ℤ_idr (g s)))
    (eq-or-lt_of_le (le_of_suc-le-suc h))

-- Laws of tests: of the numbers below a bound, and of one test or another.
-- What carries them: recursion on the bound. Assumes nothing.
use mathlib.Core.Path.{◌≡◌, refl, sym, subst, ◌∙◌}
use mathlib.Core.Bool.{Bool, true, false, ◌&&◌, ◌||◌, false≢true}
use mathlib.Core.Logic.{⊎_elim}
use Prim.Native.Nat.{ℕ, zero, suc, ◌<◌}
use native.Mathlib.Nat.{not-suc-le-zero, le_of_suc-le-suc, eq-or-lt_of_le}
use native.Mathlib.Omega.{arith}
use Rattle.counting.specs.Counting.{all}
use Rattle.counting.proofs.Cases.{true_or_false, and_both, and_left, and_right}

-- a statement about k below suc n: at n, or below n
pub at_or_below : (P : ℕ → Type 0) (k n : ℕ) → k < suc n → P n → (k < n → P k) → P k
at_or_below P k n h here below = ⊎_elim (λ e. subst P (sym e) here) below (eq-or-lt_of_le (le_of_suc-le-suc h))

pub or_else_lem : (a b : Bool) → (a || b) ≡ true → a ≡ false → b ≡ true
or_else_lem true b e f = absurd (false≢true (sym f))
or_else_lem false b e f = e

-- all: what is tested of each number below n
pub all_true : (f : ℕ → Bool) (n : ℕ) → all n f ≡ true → (k : ℕ) → k < n → f k ≡ true
unfolding all
all_true f zero e k h = absurd (not-suc-le-zero h)
all_true f (suc n) e k h =
    at_or_below (λ i. f i ≡ true) k n h (and_right (all n f) (f n) e) (λ l. all_true f n (and_left (all n f) (f n) e) k l)

pub all_says : (f : ℕ → Bool) (n : ℕ) → ((k : ℕ) → k < n → f k ≡ true) → all n f ≡ true
unfolding all
all_says f zero each = refl
all_says f (suc n) each =
    and_both (all n f) (f n) (all_says f n (λ k h. each k (omega arith))) (each n (omega arith))

-- a number below n that fails the test
pub record Fails (f : ℕ → Bool) (n : ℕ) : Type 0 where
  pub number : ℕ
  pub below : number < n
  pub fails : f number ≡ false

left_false : (a b : Bool) → (a && b) ≡ false → b ≡ true → a ≡ false
left_false true b e h = absurd (false≢true (sym e ∙ h))
left_false false b e h = refl

further : {f : ℕ → Bool} {n : ℕ} → Fails f n → Fails f (suc n)
further k = record { number = k.number; below = omega (arith, k.below); fails = k.fails }

pub all_false : (f : ℕ → Bool) (n : ℕ) → all n f ≡ false → Fails f n
unfolding all
all_false f zero e = absurd (false≢true (sym e))
all_false f (suc n) e =
    ⊎_elim
    (λ h. further (all_false f n (left_false (all n f) (f n) e h)))
    (λ h. record { number = n; below = omega arith; fails = h })
    (true_or_false (f n))

-- Laws of the list of n integers, and of a test over all numbers below n that one number fails.
-- What carries them: recursion on n. Assumes nothing.
use mathlib.Core.Path.{◌≡◌, refl, sym, ap, ◌∙◌}
use mathlib.Core.Bool.{Bool, false, false≢true}
use mathlib.Core.List.{List}
use Prim.Native.Nat.{ℕ, zero, suc, ◌<◌}
use native.Mathlib.Nat.{not-suc-le-zero, le_of_suc-le-suc}
use native.Mathlib.Omega.{arith}
use lib.ListN.{length, get_or}
use lib.Seq.{ext_get_or}
use lib.IntN.{ℤ, pos}
use Rattle.counting.proofs.Cases.{not_true_false}
use Rattle.counting.specs.Counting.{all}
use Rattle.counting.proofs.Tests.{all_true}
use Rattle.reading.specs.Sums.{integers}

pub integers_length : (n : ℕ) (f : ℕ → ℤ) → length (integers n f) ≡ n
unfolding integers
integers_length zero f = refl
integers_length (suc n) f = ap suc (integers_length n (λ k. f (suc k)))

pub integers_at : (n : ℕ) (f : ℕ → ℤ) (u : ℕ) → u < n → get_or (integers n f) u (pos 0) ≡ f u
unfolding integers
integers_at zero f u h = absurd (not-suc-le-zero h)
integers_at (suc n) f zero h = refl
integers_at (suc n) f (suc u) h = integers_at n (λ k. f (suc k)) u (le_of_suc-le-suc h)

-- a list is known by its length and its numbers
pub is_integers : (n : ℕ) (f : ℕ → ℤ) (y : List ℤ) → length y ≡ n → ((u : ℕ) → u < n → get_or y u (pos 0) ≡ f u) → y ≡ integers n f
is_integers n f y e h =
    ext_get_or (pos 0) y (integers n f) (e ∙ sym (integers_length n f))
    (λ u l. let k : u < n = omega (arith, e) in h u k ∙ sym (integers_at n f u k))

pub all_fails : (f : ℕ → Bool) (k n : ℕ) → k < n → f k ≡ false → all n f ≡ false
all_fails f k n h e = not_true_false (all n f) (λ a. false≢true (sym e ∙ all_true f n a k h))

-- Counts of two tests, the one with the other: as many at most, and fewer where a number has the second alone.
-- What carries it: induction on the range. Assumes nothing.
use mathlib.Core.Path.{◌≡◌, subst}
use mathlib.Core.Bool.{Bool, true, false}
use Prim.Native.Nat.{ℕ, zero, suc, ◌≤◌, ◌<◌}
use native.Mathlib.Omega.{arith}
use Rattle.counting.specs.Counting.{how_many}
use Rattle.counting.proofs.Counting.{how_many_yes, how_many_no, how_many_zero, how_many_step}
use Rattle.homology.proofs.Marks.{by_mark, by_order}

module _ (f g : ℕ → Bool) (with : (k : ℕ) → f k ≡ true → g k ≡ true) where
  pub count_at_most : (n : ℕ) → how_many f n ≤ how_many g n
  count_at_most zero = omega (arith, how_many_zero f)
  count_at_most (suc n) = by_mark (f n)
      (λ e. omega (arith, how_many_yes f n e, how_many_yes g n (with n e), count_at_most n))
      (λ e. omega (arith, how_many_no f n e, (how_many_step g n).0, count_at_most n))

  pub count_fewer : (n b : ℕ) → b < n → f b ≡ false → g b ≡ true → how_many f n < how_many g n
  count_fewer zero b l off on = absurd (omega arith)
  count_fewer (suc n) b l off on = by_order b n
      (λ k. by_mark (f n)
      (λ e. omega (arith, how_many_yes f n e, how_many_yes g n (with n e), count_fewer n b k off on))
      (λ e. omega (arith, how_many_no f n e, (how_many_step g n).0, count_fewer n b k off on)))
      (λ q. omega (arith, how_many_no f n (subst (λ (k : ℕ). f k ≡ false) q off), how_many_yes g n (subst (λ (k : ℕ). g k ≡ true) q on), count_at_most n))
      (λ k. absurd (omega arith))

-- Laws of a sum of numbers: more summands, one summand, equal and smaller ones, a factor; a count as a sum, and counts taken together.
-- What carries them: recursion on the number of summands. Assumes nothing.
use mathlib.Core.Path.{◌≡◌, refl, ap, ap₂, sym, ◌∙◌}
use mathlib.Core.Bool.{Bool, true, false}
use mathlib.Core.Logic.{◌⊎◌, inl, inr, ⊎_elim}
use Prim.Native.Nat.{ℕ, zero, suc, ◌+◌, ◌*◌, ◌≤◌, ◌<◌}
use native.Mathlib.Nat.{zero-mul, suc-mul, add-mul, le_of_suc-le-suc, eq-or-lt_of_le, not-suc-le-zero}
use native.Mathlib.Numerals.{add-one}
use native.Mathlib.Omega.{arith}
use Rattle.counting.specs.Counting.{how_many, total, pick}
use Rattle.counting.proofs.Cases.{true_or_false, below_or_not}
use Rattle.counting.proofs.Tests.{at_or_below}
use Rattle.counting.proofs.Counting.{how_many_zero, how_many_yes, how_many_no}

module _ (f : ℕ → ℕ) where
  pub total_zero : total f 0 ≡ 0
  unfolding total
  total_zero = refl

  pub total_suc : (n : ℕ) → total f (suc n) ≡ total f n + f n
  unfolding total
  total_suc n = refl

  pub total_more : (n : ℕ) → total f (n + 1) ≡ total f n + f n
  total_more n = rw (add-one n) (total_suc n)

  -- a shorter sum is not larger
  pub total_grows : (m n : ℕ) → m ≤ n → total f m ≤ total f n
  total_grows m zero h = let e : m ≡ 0 = omega arith in rw e (omega arith)
  total_grows m (suc n) h =
      ⊎_elim
      (λ e. rw e (omega arith))
      (λ l. omega (arith, total_grows m n (le_of_suc-le-suc l), total_suc n))
      (eq-or-lt_of_le h)

  -- a summand lies between its sum and the next, and under every longer sum
  pub total_inside : (k n : ℕ) → k < n → total f k + f k ≤ total f n
  total_inside k n h = omega (arith, total_suc k, total_grows (suc k) n h)

-- sums of equal summands are equal, of smaller ones not larger
pub total_cong : (f g : ℕ → ℕ) (n : ℕ) → ((k : ℕ) → k < n → f k ≡ g k) → total f n ≡ total g n
unfolding total
total_cong f g zero h = refl
total_cong f g (suc n) h = ap₂ ◌+◌ (total_cong f g n (λ k l. h k (omega arith))) (h n (omega arith))

pub total_less : (f g : ℕ → ℕ) (n : ℕ) → ((k : ℕ) → k < n → f k ≤ g k) → total f n ≤ total g n
total_less f g zero h = omega (arith, total_zero f, total_zero g)
total_less f g (suc n) h =
    omega (arith, total_less f g n (λ k l. h k (omega arith)), h n (omega arith), total_suc f n, total_suc g n)

-- a factor goes out of the sum
pub total_scaled : (f : ℕ → ℕ) (w n : ℕ) → total (λ k. f k * w) n ≡ total f n * w
total_scaled f w zero = total_zero (λ k. f k * w) ∙ sym (zero-mul w) ∙ ap (λ x. x * w) (sym (total_zero f))
total_scaled f w (suc n) =
    total_suc (λ k. f k * w) n ∙ ap (λ x. x + f n * w) (total_scaled f w n) ∙ sym (add-mul (total f n) (f n) w)
    ∙ ap (λ x. x * w) (sym (total_suc f n))

pub total_const : (w n : ℕ) → total (λ k. w) n ≡ n * w
total_const w zero = total_zero (λ k. w) ∙ sym (zero-mul w)
total_const w (suc n) = total_suc (λ k. w) n ∙ ap (λ x. x + w) (total_const w n) ∙ sym (suc-mul n w)

-- a summand is no larger than the sum, and where the sum is not 0 a summand is not 0
pub total_at : (f : ℕ → ℕ) (m k : ℕ) → k < m → f k ≤ total f m
unfolding total
total_at f zero k h = absurd (not-suc-le-zero h)
total_at f (suc m) k h =
    at_or_below (λ i. f i ≤ total f m + f m) k m h (omega arith) (λ l. omega (arith, total_at f m k l))

pub total_some : (f : ℕ → ℕ) (m : ℕ) → 1 ≤ total f m → (k : ℕ) × (k < m) × (1 ≤ f k)
unfolding total
total_some f zero h = absurd (not-suc-le-zero h)
total_some f (suc m) h =
    ⊎_elim
    (λ l. (m, omega arith, l))
    (λ l. let w = total_some f m (omega arith) in (w.0, omega (arith, w.1), w.2))
    (below_or_not 0 (f m))

-- a count is a sum of ones
pub count_is_total : (f : ℕ → Bool) (m : ℕ) → how_many f m ≡ total (λ k. pick (f k) 1 0) m
unfolding total how_many
count_is_total f zero = refl
count_is_total f (suc m) = omega (arith, count_is_total f m)

-- Of properties of which a number has one at most, the counts together are at most the bound.
module _ (h : ℕ → ℕ → Bool) (d : ℕ → ℕ) (one : (p c : ℕ) → h p c ≡ true → d c ≡ p) where
  abbrev mark : ℕ → ℕ → ℕ
  mark c p = pick (h p c) 1 0

  mark_yes : (p c : ℕ) → h p c ≡ true → mark c p ≡ 1
  mark_yes p c e = rw e

  mark_no : (p c : ℕ) → h p c ≡ false → mark c p ≡ 0
  mark_no p c e = rw e

  -- none before the one that it has, and one at most
  mark_once : (c m : ℕ) → ((m ≤ d c) → total (mark c) m ≡ 0) × (total (mark c) m ≤ 1)
  mark_once c zero = (λ l. total_zero (mark c), omega (arith, total_zero (mark c)))
  mark_once c (suc m) = go (true_or_false (h m c)) (mark_once c m)
    where
      go : (h m c ≡ true) ⊎ (h m c ≡ false) → ((m ≤ d c) → total (mark c) m ≡ 0) × (total (mark c) m ≤ 1) → ((suc m ≤ d c) → total (mark c) (suc m) ≡ 0) × (total (mark c) (suc m) ≤ 1)
      go (inl e) w =
          let i : d c ≡ m = one m c e in
          (λ l. absurd (omega arith), omega (arith, total_suc (mark c) m, mark_yes m c e, w.0 (omega arith)))
      go (inr e) w = (
        λ l. omega (arith, total_suc (mark c) m, mark_no m c e, w.0 (omega arith)),
        omega (arith, total_suc (mark c) m, mark_no m c e, w.1),
      )

  how_many_mark : (p c : ℕ) → how_many (h p) (suc c) ≡ how_many (h p) c + mark c p
  how_many_mark p c =
      ⊎_elim (λ e. omega (arith, how_many_yes (h p) c e, mark_yes p c e)) (λ e. omega (arith, how_many_no (h p) c e, mark_no p c e))
      (true_or_false (h p c))

  total_marks : (c m : ℕ) → total (λ p. how_many (h p) (suc c)) m ≡ total (λ p. how_many (h p) c) m + total (mark c) m
  total_marks c zero = omega (arith, total_zero (λ p. how_many (h p) (suc c)), total_zero (λ p. how_many (h p) c), total_zero (mark c))
  total_marks c (suc m) =
      omega (
        arith,
        total_marks c m,
        how_many_mark m c,
        total_suc (λ p. how_many (h p) (suc c)) m,
        total_suc (λ p. how_many (h p) c) m,
        total_suc (mark c) m,
      )

  total_none : (m : ℕ) → total (λ p. how_many (h p) 0) m ≡ 0
  total_none zero = total_zero (λ p. how_many (h p) 0)
  total_none (suc m) = omega (arith, total_suc (λ p. how_many (h p) 0) m, total_none m, how_many_zero (h m))

  pub counts_together : (n m : ℕ) → total (λ p. how_many (h p) n) m ≤ n
  counts_together zero m = omega (arith, total_none m)
  counts_together (suc n) m = omega (arith, total_marks n m, counts_together n m, (mark_once n m).1)

-- The largest member of a set: there is one at most, and the top bit of the last word that is not 0 is it.
-- What carries it: a number from 2 ^ j up to below 2 ^ (j + 1) has digit j and none above. Assumes nothing.
use mathlib.Core.Path.{◌≡◌, ap, ◌∙◌}
use mathlib.Core.Logic.{by_cases}
use mathlib.Core.List.{List}
use Prim.Native.Nat.{ℕ, suc, ◌+◌, ◌*◌, ◌/◌, ◌%◌, ◌^◌, ◌≤◌, ◌<◌}
use native.Mathlib.Nat.{div-eq_of_lt-le, one-mul, two-pow-succ, lt_of_lt_of_le}
use native.Mathlib.Decide.{ℕ_discrete}
use native.Mathlib.Omega.{arith}
use lib.ListN.{length, get_or}
use lib.Pow.{pow_mono}
use Rattle.bitset.specs.Bits.{bits, digit, mark, IsLargestIn, sum_of}
use Rattle.bitset.proofs.Digits.{digit_past}
use Rattle.bitset.proofs.Marks.{mark_at, mark_of_zero_word, mark_sum}

pub largest_unique : (ws : List ℕ) (m m' : ℕ) → IsLargestIn ws m → IsLargestIn ws m' → m ≡ m'
largest_unique ws m m' top top' = omega (arith, never m m' top top', never m' m top' top)
  where
    never : (m m' : ℕ) → IsLargestIn ws m → IsLargestIn ws m' → ¬ (m < m')
    never m m' top top' h = omega (arith, top'.in_set, top.above m' h)

-- Two sets with the same largest member: the sum has nothing from it on, so its own largest member, where it has one, is less.
module _ (x y : List ℕ) (m : ℕ) (e : length x ≡ length y) (top : IsLargestIn x m) (top' : IsLargestIn y m) where
  pub sum_from_largest_empty : (s : ℕ) → m ≤ s → mark (sum_of x y) s ≡ 0
  sum_from_largest_empty s h =
      by_cases (ℕ_discrete s m)
      (λ same. ap (mark (sum_of x y)) same ∙ mark_sum x y e m ∙ omega (arith, top.in_set, top'.in_set))
      (λ apart. mark_sum x y e s ∙ omega (arith, top.above s (omega arith), top'.above s (omega arith)))

-- the top digit of a number of j + 1 digits
digit_top : (n j : ℕ) → 2 ^ j ≤ n → n < 2 * 2 ^ j → digit n j ≡ 1
unfolding digit
digit_top n j low high =
    let one : n / 2 ^ j ≡ 1 = div-eq_of_lt-le (2 ^ j) (rw one-mul low) high in
    ap (λ (x : ℕ). x % 2) one

-- word w is the last that is not 0, and j its top bit
module _ (ws : List ℕ) (w j : ℕ) (inside : w < length ws) (bit : j < bits) where
  pub top_bit_is_largest : 2 ^ j ≤ get_or ws w 0 → get_or ws w 0 < 2 * 2 ^ j → ((k : ℕ) → w < k → get_or ws k 0 ≡ 0) → IsLargestIn ws (bits * w + j)
  unfolding mark
  top_bit_is_largest low high none = record {
    inside = omega arith;
    in_set = mark_at ws w j bit ∙ digit_top (get_or ws w 0) j low high;
    above = λ s h. by_cases (ℕ_discrete (s / bits) w) (beside s h) (λ apart. mark_of_zero_word ws s (none (s / bits) (omega arith)));
  }
    where
      beside : (s : ℕ) → bits * w + j < s → s / bits ≡ w → mark ws s ≡ 0
      beside s h e =
          let further : suc j ≤ s % bits = omega arith in
          ap (λ (i : ℕ). digit (get_or ws i 0) (s % bits)) e ∙ digit_past (get_or ws w 0) (s % bits) (lt_of_lt_of_le high (omega (arith, pow_mono further, two-pow-succ j)))

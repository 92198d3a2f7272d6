-- Binary digits of a number: of 0, of a power of 2, of an exclusive or; and that the digits decide the number.
-- A law over every place is proved by halving: digit k + 1 of n is digit k of n / 2. Assumes nothing.
use mathlib.Core.Path.{◌≡◌, refl, sym, ap, ◌∙◌}
use mathlib.Core.Logic.{◌≢◌}
use Prim.Native.Nat.{ℕ, zero, suc, ◌+◌, ◌*◌, ◌/◌, ◌%◌, ◌^◌, ◌<◌, suc-le-suc}
use native.Mathlib.Nat.{div-one, div_self, zero-div, mul-mod_left, mul-div_cancel, zero-lt-suc, pow-suc, div-eq_of_lt}
use native.Mathlib.Numerals.{one-add, add-one}
use native.Mathlib.Omega.{arith}
use lib.Arith.{lt-one}
use lib.Bits.{bit_xor, xor_shr, xor_add_and}
use lib.Count.{count_leading_zeros, count_trailing_zeros, leading_le, trailing_le}
use lib.Pow.{pow_pos, shr-shr, shr_lt}
use mir.Syntax.{w64}
use mir.Val.{Fits}
use Rattle.bitset.specs.Bits.{bits, digit}

pub digit_lt_two : (n k : ℕ) → digit n k < 2
unfolding digit
digit_lt_two n k = omega arith

pub digit_of_zero : (k : ℕ) → digit 0 k ≡ 0
unfolding digit
digit_of_zero k = ap (λ (x : ℕ). x % 2) (zero-div (2 ^ k))

-- the lowest digit, and the others by halving
pub digit_first : (n : ℕ) → digit n 0 ≡ n % 2
unfolding digit
digit_first n = ap (λ (x : ℕ). x % 2) (div-one n)

pub digit_next : (n k : ℕ) → digit n (suc k) ≡ digit (n / 2) k
unfolding digit
digit_next n k = ap (λ (x : ℕ). x % 2) (ap (λ (x : ℕ). n / 2 ^ x) (sym (one-add k)) ∙ sym (shr-shr n 1 k))

-- a number below 2 ^ k has nothing from digit k on
pub digit_past : (n k : ℕ) → n < 2 ^ k → digit n k ≡ 0
unfolding digit
digit_past n k h = ap (λ (x : ℕ). x % 2) (div-eq_of_lt h)

-- exclusive or adds digit by digit, without a carry
pub digit_xor : (a b k : ℕ) → digit (bit_xor a b) k ≡ (digit a k + digit b k) % 2
unfolding digit
digit_xor a b k = ap (λ (x : ℕ). x % 2) (xor_shr a b k) ∙ parity (bit_xor (a / 2 ^ k) (b / 2 ^ k)) _ _ _ (xor_add_and (a / 2 ^ k) (b / 2 ^ k))
  where
    parity : (x n p q : ℕ) → x + n * 2 ≡ p + q → x % 2 ≡ (p % 2 + q % 2) % 2
    parity x n p q h = omega arith

-- ---- a power of 2 has one digit

pub digit_of_power_same : (b : ℕ) → digit (2 ^ b) b ≡ 1
unfolding digit
digit_of_power_same b = ap (λ (x : ℕ). x % 2) (div_self (pow_pos b))

pub digit_of_power_other : (b k : ℕ) → k ≢ b → digit (2 ^ b) k ≡ 0
digit_of_power_other zero zero h = absurd (h refl)
digit_of_power_other zero (suc k) h = digit_next 1 k ∙ digit_of_zero k
digit_of_power_other (suc b) zero h = digit_first (2 ^ suc b) ∙ ap (λ (x : ℕ). x % 2) (pow-suc 2 b) ∙ mul-mod_left (2 ^ b) 2
digit_of_power_other (suc b) (suc k) h =
    digit_next (2 ^ suc b) k
    ∙ ap (λ (x : ℕ). digit x k) (ap (λ (x : ℕ). x / 2) (pow-suc 2 b) ∙ mul-div_cancel (2 ^ b) (zero-lt-suc 1))
    ∙ digit_of_power_other b k (λ e. h (ap suc e))

-- ---- the digits decide the number

pub half_lt : (w n : ℕ) → n < 2 ^ suc w → n / 2 < 2 ^ w
half_lt w n h = shr_lt w 1 (rw add-one h)

digits_decide_below : (w a b : ℕ) → a < 2 ^ w → b < 2 ^ w → ((k : ℕ) → k < w → digit a k ≡ digit b k) → a ≡ b
digits_decide_below zero a b ha hb same = lt-one ha ∙ sym (lt-one hb)
digits_decide_below (suc w) a b ha hb same =
    halves
    (sym (digit_first a) ∙ same 0 (zero-lt-suc w) ∙ digit_first b)
    (digits_decide_below w (a / 2) (b / 2) (half_lt w a ha) (half_lt w b hb) (λ k h. sym (digit_next a k) ∙ same (suc k) (suc-le-suc h) ∙ digit_next b k))
  where
    halves : a % 2 ≡ b % 2 → a / 2 ≡ b / 2 → a ≡ b
    halves p q = omega arith

-- two words with the same digits are the same word
pub digits_decide : (a b : ℕ) → a < 2 ^ 64 → b < 2 ^ 64 → ((k : ℕ) → k < bits → digit a k ≡ digit b k) → a ≡ b
digits_decide a b = digits_decide_below 64 a b

-- a word with no digit is 0
pub no_digits_zero : (a : ℕ) → a < 2 ^ 64 → ((k : ℕ) → k < bits → digit a k ≡ 0) → a ≡ 0
no_digits_zero a h none = digits_decide a 0 h (pow_pos 64) (λ k p. none k p ∙ sym (digit_of_zero k))

-- ---- a count of a word's zeros fits a usize

pub leading_fits : (v : ℕ) → Fits w64 (count_leading_zeros 64 v)
leading_fits v = omega (arith, leading_le 64 v)

pub trailing_fits : (v : ℕ) → Fits w64 (count_trailing_zeros 64 v)
trailing_fits v = omega (arith, trailing_le 64 v)

pub ruleset counts_fit = (leading_fits, trailing_fits)

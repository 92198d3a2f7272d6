-- The lowest bit of a word: what `count_trailing_zeros` counts, and the word with one bit taken away, for going through a word's bits in rising order.
-- The measure of such a walk: the word itself, which falls (`bit_gone_less`). Assumes nothing.
use mathlib.Core.Path.{◌≡◌, refl, sym, ap, ◌∙◌}
use mathlib.Core.Logic.{◌≢◌}
use mathlib.Core.List.{List}
use Prim.Native.Nat.{ℕ, zero, suc, ◌+◌, ◌-◌, ◌*◌, ◌/◌, ◌%◌, ◌^◌, ◌<◌, suc-le-suc}
use native.Mathlib.Nat.{zero-lt-suc, not-suc-le-zero, le_of_suc-le-suc, two-pow-succ, one-mul}
use native.Mathlib.Numerals.{one-add}
use native.Mathlib.Omega.{arith}
use lib.Bits.{bit_xor, bit_and, xor_add_and, and_high}
use lib.Count.{count_trailing_zeros, under}
use lib.Dec.{lit<}
use lib.ListN.{get_or, set}
use lib.Pow.{pow_pos, shl_exact}
use Rattle.bitset.specs.Bits.{bits, digit, toggled, IsLowest}
use Rattle.bitset.proofs.Digits.{half_lt, digit_lt_two, digit_first, digit_next, digit_xor, digit_of_power_same, digit_of_power_other}

-- ---- the zeros below the lowest bit: by halving, with one more zero for each even half

-- b is the lowest of the w lowest digits of v that is set
abbrev LowestOf : ℕ → ℕ → ℕ → Type 0
LowestOf w v b = (b < w) × (digit v b ≡ 1) × ((k : ℕ) → k < b → digit v k ≡ 0)

trailing_lowest : (w v : ℕ) → 0 < v → v < 2 ^ w → LowestOf w v (count_trailing_zeros w v)
unfolding count_trailing_zeros
trailing_lowest zero v p h = absurd (omega arith)
trailing_lowest (suc w) v p h = by_first (v % 2) refl (λ q. trailing_lowest w (v / 2) q (half_lt w v h))
  where
    by_first : (d : ℕ) → v % 2 ≡ d → (0 < v / 2 → LowestOf w (v / 2) (count_trailing_zeros w (v / 2))) → LowestOf (suc w) v (under d (count_trailing_zeros w (v / 2)))
    by_first zero e rest =
        let low : LowestOf w (v / 2) (count_trailing_zeros w (v / 2)) = rest (omega arith) in
        (suc-le-suc low.0, digit_next v (count_trailing_zeros w (v / 2)) ∙ low.1, below low.2)
      where
        below : ((k : ℕ) → k < count_trailing_zeros w (v / 2) → digit (v / 2) k ≡ 0) → (k : ℕ) → k < suc (count_trailing_zeros w (v / 2)) → digit v k ≡ 0
        below none zero g = digit_first v ∙ e
        below none (suc k) g = digit_next v k ∙ none k (le_of_suc-le-suc g)
    by_first (suc d) e rest =
        let one : v % 2 ≡ 1 = omega arith in
        (zero-lt-suc w, digit_first v ∙ one, λ k g. absurd (not-suc-le-zero g))

-- of a word that is not 0, `count_trailing_zeros` is its lowest bit
pub trailing_is_lowest : (v : ℕ) → 0 < v → v < 2 ^ 64 → IsLowest v (count_trailing_zeros 64 v)
trailing_is_lowest v p h =
    let low : LowestOf 64 v (count_trailing_zeros 64 v) = trailing_lowest 64 v p h in
    record { inside = low.0; set = low.1; below = low.2 }

-- ---- a word with one bit taken away

-- how `1 << k` reads
one_shifted : (k : ℕ) → k < bits → (1 * 2 ^ k) % 2 ^ 64 ≡ 2 ^ k
one_shifted k h = shl_exact {a = 1} 1 k 64 (lit< tt) (omega arith) ∙ one-mul (2 ^ k)

-- how `ws[c / 64] ^ (1 << (c % 64))` reads once it is stored
pub toggled_by_shift : (ws : List ℕ) (c : ℕ) → set ws (c / bits) (bit_xor (get_or ws (c / bits) 0) ((1 * 2 ^ (c % bits)) % 2 ^ 64)) ≡ toggled ws c
unfolding toggled
toggled_by_shift ws c = ap (λ (x : ℕ). set ws (c / bits) (bit_xor (get_or ws (c / bits) 0) x)) (one_shifted (c % bits) (omega arith))

and_power : (v k : ℕ) → bit_and v (2 ^ k) ≡ digit v k * 2 ^ k
unfolding digit
and_power v k =
    let twice : 2 ^ (1 + k) ≡ 2 ^ k + 2 ^ k = ap (λ (x : ℕ). 2 ^ x) (one-add k) ∙ two-pow-succ k in
    let one : 2 ^ (1 + k) - 2 ^ k ≡ 2 ^ k = omega arith in
    ap (bit_and v) (sym one) ∙ and_high v 1 k

-- the bit and the rest make the word
bit_and_rest : (v k : ℕ) → digit v k ≡ 1 → bit_xor v (2 ^ k) + 2 ^ k ≡ v
bit_and_rest v k e =
    let shared : bit_and v (2 ^ k) ≡ 2 ^ k = and_power v k ∙ ap (λ (x : ℕ). x * 2 ^ k) e ∙ one-mul (2 ^ k) in
    omega (arith, xor_add_and v (2 ^ k))

-- v with bit k turned, as `v ^ (1 << k)` reads; where the bit was set, it is gone
module _ (v k : ℕ) (h : k < bits) where
  gone : bit_xor v ((1 * 2 ^ k) % 2 ^ 64) ≡ bit_xor v (2 ^ k)
  gone = ap (bit_xor v) (one_shifted k h)

  bit_gone_turned : digit (bit_xor v ((1 * 2 ^ k) % 2 ^ 64)) k ≡ (digit v k + 1) % 2
  bit_gone_turned =
      ap (λ (x : ℕ). digit x k) gone ∙ digit_xor v (2 ^ k) k ∙ ap (λ (x : ℕ). (digit v k + x) % 2) (digit_of_power_same k)

  pub bit_gone_same : digit v k ≡ 1 → digit (bit_xor v ((1 * 2 ^ k) % 2 ^ 64)) k ≡ 0
  bit_gone_same e = bit_gone_turned ∙ ap (λ (x : ℕ). (x + 1) % 2) e

  pub bit_gone_other : (j : ℕ) → j ≢ k → digit (bit_xor v ((1 * 2 ^ k) % 2 ^ 64)) j ≡ digit v j
  bit_gone_other j ne =
      let alone : digit (2 ^ k) j ≡ 0 = digit_of_power_other k j ne in
      let sum : digit (bit_xor v (2 ^ k)) j ≡ (digit v j + digit (2 ^ k) j) % 2 = digit_xor v (2 ^ k) j in
      ap (λ (x : ℕ). digit x j) gone ∙ omega (arith, digit_lt_two v j)

  pub bit_gone_less : digit v k ≡ 1 → bit_xor v ((1 * 2 ^ k) % 2 ^ 64) < v
  bit_gone_less e = rw (one_shifted k h) (omega (arith, bit_and_rest v k e, pow_pos k))

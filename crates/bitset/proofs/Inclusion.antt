-- One set inside another, word by word: a word x lies inside y where x | y is y.
-- What carries it: the digits of x | y, and that digits decide a word. Assumes nothing.
use mathlib.Core.Path.{◌≡◌, refl, sym, ap, ◌∙◌}
use mathlib.Core.Bool.{Bool, true}
use lib.Dec.{eqb}
use Rattle.std.specs.List.{list_all, zip}
use mathlib.Core.List.{List, [], ◌∷◌}
use borrow.Author.Tests.{eqb-true, eq-eqb}
use mathlib.Core.Logic.{by_cases}
use Prim.Native.Nat.{ℕ, zero, suc, ◌+◌, ◌*◌, ◌/◌, ◌%◌, ◌^◌, ◌≤◌, ◌<◌}
use native.Mathlib.Decide.{dec_lt}
use native.Mathlib.Omega.{arith}
use lib.Bits.{bit_or, or_shr, or_step, or_lt}
use lib.ListN.{length, get_or}
use Rattle.bitset.specs.Bits.{bits, digit, mark, IsWithin}
use Rattle.bitset.proofs.Digits.{digit_lt_two, digits_decide}
use Rattle.bitset.proofs.Marks.{mark_at, member_inside}
use Rattle.bitset.proofs.Words.{and_left, and_right}

digit_or : (a b k : ℕ) → (digit b k ≤ digit (bit_or a b) k) × (digit a k ≤ digit (bit_or a b) k) × (digit (bit_or a b) k ≤ digit a k + digit b k)
unfolding digit
digit_or a b k =
    let e : bit_or a b / 2 ^ k ≡ bit_or (a / 2 ^ k) (b / 2 ^ k) = or_shr a b k in
    let s = or_step (a / 2 ^ k) (b / 2 ^ k) in
    (omega (arith, e, s), omega (arith, e, s), omega (arith, e, s))

-- x | y ≡ y: what is in x is in y
word_inside : (x y k : ℕ) → bit_or x y ≡ y → digit x k ≡ 1 → digit y k ≡ 1
word_inside x y k e one = omega (arith, (digit_or x y k).1, ap (λ (v : ℕ). digit v k) e, digit_lt_two y k)

inside_word : (x y : ℕ) → x < 2 ^ 64 → y < 2 ^ 64 → ((k : ℕ) → k < bits → digit x k ≡ 1 → digit y k ≡ 1) → bit_or x y ≡ y
inside_word x y hx hy in-y = digits_decide (bit_or x y) y (or_lt 64 x y hx hy) hy (λ k h. at k h)
  where
    at : (k : ℕ) → k < bits → digit (bit_or x y) k ≡ digit y k
    at k h = by_cases (dec_lt (digit x k) 1)
        (λ l. omega (arith, (digit_or x y k).0, (digit_or x y k).2))
        (λ l. let one : digit x k ≡ 1 = omega (arith, digit_lt_two x k) in omega (arith, in-y k h one, (digit_or x y k).0, digit_lt_two (bit_or x y) k))

-- the test that the code makes of a pair of words
abbrev pub pair_inside : ℕ × ℕ → Bool
pair_inside p = eqb (bit_or p.0 p.1) p.1

-- where each pair passes, each word lies inside; and the other way round
pairs_inside : (xs ys : List ℕ) → length xs ≤ length ys → list_all pair_inside (zip xs ys) ≡ true → (i : ℕ) → i < length xs → bit_or (get_or xs i 0) (get_or ys i 0) ≡ get_or ys i 0
pairs_inside [] ys h e i l = absurd (omega arith)
pairs_inside (x ∷ xs) [] h e i l = absurd (omega arith)
pairs_inside (x ∷ xs) (y ∷ ys) h e zero l = eqb-true _ _ (and_left (pair_inside (x, y)) _ e)
pairs_inside (x ∷ xs) (y ∷ ys) h e (suc i) l = pairs_inside xs ys (omega arith) (and_right (pair_inside (x, y)) _ e) i (omega arith)

inside_pairs : (xs ys : List ℕ) → length xs ≤ length ys → ((i : ℕ) → bit_or (get_or xs i 0) (get_or ys i 0) ≡ get_or ys i 0) → list_all pair_inside (zip xs ys) ≡ true
inside_pairs [] ys h each = refl
inside_pairs (x ∷ xs) [] h each = absurd (omega arith)
inside_pairs (x ∷ xs) (y ∷ ys) h each = rw (eq-eqb _ _ (each 0)) (inside_pairs xs ys (omega arith) (λ i. each (suc i)))

-- the test of all pairs says whether one set lies inside the other
pub within_pairs : (xs ys : List ℕ) → length xs ≤ length ys → ((i : ℕ) → get_or xs i 0 < 2 ^ 64) → ((i : ℕ) → get_or ys i 0 < 2 ^ 64) → IsWithin xs ys (list_all pair_inside (zip xs ys))
unfolding mark
within_pairs xs ys h bx by = record {
  says = λ e s one. word_inside (get_or xs (s / bits) 0) (get_or ys (s / bits) 0) (s % bits) (pairs_inside xs ys h e (s / bits) (omega (arith, member_inside xs s one))) one;
  said = λ in-ys. inside_pairs xs ys h (λ i. inside_word (get_or xs i 0) (get_or ys i 0) (bx i) (by i)
      (λ b l one. sym (mark_at ys i b l) ∙ in-ys (bits * i + b) (mark_at xs i b l ∙ one)));
}

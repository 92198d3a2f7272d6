-- Marks of a set of numbers: below 2, none past the last word, after a toggle, of a sum; `member` as a mark.
-- Each law reads one word by `get_or`, and then one digit of it (`Digits`). Assumes nothing.
use mathlib.Core.Path.{◌≡◌, refl, sym, ap, ap₂, ◌∙◌}
use mathlib.Core.Logic.{◌≢◌, by_cases}
use mathlib.Core.Bool.{true, false}
use mathlib.Core.List.{List, [], ◌∷◌}
use Prim.Native.Nat.{ℕ, zero, suc, ◌+◌, ◌*◌, ◌/◌, ◌%◌, ◌^◌, ◌≤◌, ◌<◌}
use native.Mathlib.Nat.{suc_inj, suc-ne-zero}
use native.Mathlib.Decide.{dec_lt, ℕ_discrete}
use native.Mathlib.Omega.{arith}
use borrow.Author.Tests.{eqb-true, eqb-false, eq-eqb, ne_eqb}
use lib.Bits.{bit_xor}
use lib.ListN.{length, get_or, replicate, length-set, get_or-eq_default}
use lib.Seq.{get_or-set_same, get_or-set_other, set_out}
use Rattle.bitset.specs.Bits.{bits, digit, mark, member, toggled, sum_of}
use Rattle.bitset.proofs.Digits.{digit_lt_two, digit_of_zero, digit_xor, digit_of_power_same, digit_of_power_other}

pub mark_lt_two : (ws : List ℕ) (s : ℕ) → mark ws s < 2
unfolding mark
mark_lt_two ws s = digit_lt_two (get_or ws (s / bits) 0) (s % bits)

-- a mark by its word and bit
pub mark_at : (ws : List ℕ) (w b : ℕ) → b < bits → mark ws (bits * w + b) ≡ digit (get_or ws w 0) b
unfolding mark
mark_at ws w b h =
    let word : (bits * w + b) / bits ≡ w = omega arith in
    let bit : (bits * w + b) % bits ≡ b = omega arith in
    ap₂ (λ (i k : ℕ). digit (get_or ws i 0) k) word bit

-- where the word is 0, nothing is in
pub mark_of_zero_word : (ws : List ℕ) (s : ℕ) → get_or ws (s / bits) 0 ≡ 0 → mark ws s ≡ 0
unfolding mark
mark_of_zero_word ws s e = ap (λ (x : ℕ). digit x (s % bits)) e ∙ digit_of_zero (s % bits)

pub mark_past : (ws : List ℕ) (s : ℕ) → bits * length ws ≤ s → mark ws s ≡ 0
mark_past ws s h =
    let past : length ws ≤ s / bits = omega arith in
    mark_of_zero_word ws s (get_or-eq_default ws 0 past)

-- a member has a word
pub member_inside : (ws : List ℕ) (s : ℕ) → mark ws s ≡ 1 → s < bits * length ws
member_inside ws s e = by_cases (dec_lt s (bits * length ws)) (λ h. h) (λ past. absurd (omega (arith, mark_past ws s (omega arith))))

pub zeros_at : (n k : ℕ) → ◌≡◌ {A = ℕ} (get_or (replicate n 0) k 0) 0
zeros_at zero k = refl
zeros_at (suc n) zero = refl
zeros_at (suc n) (suc k) = zeros_at n k

pub mark_zeros : (n s : ℕ) → mark (replicate n 0) s ≡ 0
mark_zeros n s = mark_of_zero_word (replicate n 0) s (zeros_at n (s / bits))

-- ---- one number put in or taken out

pub length_toggled : (ws : List ℕ) (c : ℕ) → length (toggled ws c) ≡ length ws
unfolding toggled
length_toggled ws c = length-set ws (c / bits) _

pub mark_toggled_same : (ws : List ℕ) (c : ℕ) → c / bits < length ws → mark (toggled ws c) c ≡ (mark ws c + 1) % 2
unfolding mark toggled
mark_toggled_same ws c h =
    ap (λ (x : ℕ). digit x (c % bits)) (get_or-set_same ws (c / bits) _ 0 h)
    ∙ digit_xor (get_or ws (c / bits) 0) (2 ^ (c % bits)) (c % bits)
    ∙ ap (λ (x : ℕ). (digit (get_or ws (c / bits) 0) (c % bits) + x) % 2) (digit_of_power_same (c % bits))

-- another number of the same word
toggled_beside : (ws : List ℕ) (c s : ℕ) → s ≢ c → s / bits ≡ c / bits → c / bits < length ws → mark (toggled ws c) s ≡ mark ws s
unfolding mark toggled
toggled_beside ws c s ne e h =
    let apart : s % bits ≢ c % bits = omega arith in
    let here : get_or ws (s / bits) 0 ≡ get_or ws (c / bits) 0 = ap (λ (i : ℕ). get_or ws i 0) e in
    ap (λ (i : ℕ). digit (get_or (toggled ws c) i 0) (s % bits)) e
    ∙ ap (λ (x : ℕ). digit x (s % bits)) (get_or-set_same ws (c / bits) _ 0 h)
    ∙ digit_xor (get_or ws (c / bits) 0) (2 ^ (c % bits)) (s % bits)
    ∙ kept (digit (get_or ws (c / bits) 0) (s % bits)) _ (digit_lt_two _ _) (digit_of_power_other (c % bits) (s % bits) apart)
    ∙ ap (λ (x : ℕ). digit x (s % bits)) (sym here)
  where
    kept : (d z : ℕ) → d < 2 → z ≡ 0 → (d + z) % 2 ≡ d
    kept d z h e = omega arith

pub mark_toggled_other : (ws : List ℕ) (c s : ℕ) → s ≢ c → mark (toggled ws c) s ≡ mark ws s
unfolding mark toggled
mark_toggled_other ws c s ne =
    by_cases (ℕ_discrete (s / bits) (c / bits))
    (λ e. by_cases (dec_lt (c / bits) (length ws))
    (toggled_beside ws c s ne e)
    (λ out. ap (λ (x : List ℕ). mark x s) (set_out ws (c / bits) _ (omega arith))))
    (λ apart. ap (λ (x : ℕ). digit x (s % bits)) (get_or-set_other ws (c / bits) (s / bits) _ 0 apart))

-- ---- the sum of two sets

pub length_sum : (x y : List ℕ) → length (sum_of x y) ≡ length x
unfolding sum_of
length_sum [] y = refl
length_sum (a ∷ x) [] = refl
length_sum (a ∷ x) (b ∷ y) = ap suc (length_sum x y)

pub sum_at : (x y : List ℕ) → length x ≡ length y → (k : ℕ) → get_or (sum_of x y) k 0 ≡ bit_xor (get_or x k 0) (get_or y k 0)
unfolding sum_of
sum_at [] [] e k = refl
sum_at [] (b ∷ y) e k = absurd (suc-ne-zero _ (sym e))
sum_at (a ∷ x) [] e k = absurd (suc-ne-zero _ e)
sum_at (a ∷ x) (b ∷ y) e zero = refl
sum_at (a ∷ x) (b ∷ y) e (suc k) = sum_at x y (suc_inj e) k

-- exclusive or of the words adds the sets mod 2
pub mark_sum : (x y : List ℕ) → length x ≡ length y → (s : ℕ) → mark (sum_of x y) s ≡ (mark x s + mark y s) % 2
unfolding mark
mark_sum x y e s = ap (λ (v : ℕ). digit v (s % bits)) (sum_at x y e (s / bits)) ∙ digit_xor (get_or x (s / bits) 0) (get_or y (s / bits) 0) (s % bits)

-- ---- membership as a mark

pub member_true : (ws : List ℕ) (c : ℕ) → member ws c ≡ true → mark ws c ≡ 1
unfolding member
member_true ws c h = eqb-true (mark ws c) 1 h

pub true_member : (ws : List ℕ) (c : ℕ) → mark ws c ≡ 1 → member ws c ≡ true
unfolding member
true_member ws c h = eq-eqb (mark ws c) 1 h

pub member_false : (ws : List ℕ) (c : ℕ) → member ws c ≡ false → mark ws c ≡ 0
unfolding member
member_false ws c h =
    let out : mark ws c ≢ 1 = eqb-false (mark ws c) 1 h in
    omega (arith, mark_lt_two ws c)

pub false_member : (ws : List ℕ) (c : ℕ) → mark ws c ≡ 0 → member ws c ≡ false
unfolding member
false_member ws c h = ne_eqb (mark ws c) 1 (λ e. omega arith)

-- Sets word by word: the empty set, by its words and by its marks.
-- The bound on the words is stated as `(k : ℕ) → get_or ws k 0 < 2 ^ 64`, which owning a slice of u64 tells. Assumes nothing.
use mathlib.Core.Path.{◌≡◌, refl, sym, ap, ◌∙◌}
use mathlib.Core.Bool.{Bool, true, false, ◌&&◌}
use mathlib.Core.List.{List, [], ◌∷◌}
use Prim.Native.Nat.{ℕ, zero, suc, ◌+◌, ◌*◌, ◌/◌, ◌^◌, ◌<◌}
use borrow.Author.Tests.{eqb-true, eq-eqb}
use lib.Dec.{eqb}
use lib.ListN.{get_or}
use Rattle.bitset.specs.Bits.{bits, mark, nothing_in}
use Rattle.bitset.proofs.Digits.{no_digits_zero}
use Rattle.bitset.proofs.Marks.{mark_at, mark_of_zero_word}

pub and_left : (a b : Bool) → a && b ≡ true → a ≡ true
and_left true b h = refl
and_left false b h = h

pub and_right : (a b : Bool) → a && b ≡ true → b ≡ true
and_right true b h = h
and_right false true h = refl
and_right false false h = h

nothing_in_words : (ws : List ℕ) → nothing_in ws ≡ true → (k : ℕ) → get_or ws k 0 ≡ 0
nothing_in_words [] h k = refl
nothing_in_words (x ∷ ws) h zero = eqb-true x 0 (and_left (eqb x 0) (nothing_in ws) h)
nothing_in_words (x ∷ ws) h (suc k) = nothing_in_words ws (and_right (eqb x 0) (nothing_in ws) h) k

words_nothing_in : (ws : List ℕ) → ((k : ℕ) → get_or ws k 0 ≡ 0) → nothing_in ws ≡ true
words_nothing_in [] none = refl
words_nothing_in (x ∷ ws) none = ap (λ (b : Bool). b && nothing_in ws) (eq-eqb x 0 (none 0)) ∙ words_nothing_in ws (λ k. none (suc k))

-- with no bound on the words
pub nothing_in_marks : (ws : List ℕ) → nothing_in ws ≡ true → (s : ℕ) → mark ws s ≡ 0
nothing_in_marks ws h s = mark_of_zero_word ws s (nothing_in_words ws h (s / bits))

pub marks_nothing_in : (ws : List ℕ) → ((k : ℕ) → get_or ws k 0 < 2 ^ 64) → ((s : ℕ) → mark ws s ≡ 0) → nothing_in ws ≡ true
marks_nothing_in ws below none = words_nothing_in ws (λ k. no_digits_zero (get_or ws k 0) (below k) (λ b h. sym (mark_at ws k b h) ∙ none (bits * k + b)))

-- The word that C sees tells the refusal: its lowest eight bits are the number, it is never 0, and two refusals that it has room for
-- and that have the same word are the same.
-- What carries it: each field is a remainder and a quotient of the word. Assumes nothing.
use mathlib.Core.Path.{◌≡◌, refl, sym, ap, ◌∙◌}
use Prim.Native.Nat.{ℕ, ◌+◌, ◌%◌, ◌/◌, ◌<◌}
use native.Mathlib.Omega.{arith}
use lib.Dec.{eqb}
use Rattle.counting.specs.Counting.{pick}
use Rattle.calls.proofs.Numbers.{number_above_zero}
use Rattle.calls.specs.Numbers.{number_of}
use Rattle.calls.specs.Packed.{breach_bits, packed_of, BreachFits, WordFits}
use Rattle.calls.specs.declared.Breach.{Breach}
use Rattle.calls.specs.declared.Breach.TheVariants.{Record, Face, Law}
use Rattle.calls.specs.declared.Refusal.{Refusal}
use Rattle.calls.specs.declared.Refusal.TheVariants.{Length, Invalid, NotLive, SameCell, DimensionsDiffer, FacesDiffer, NotClosed, TopMarked, NoRoom, TooLarge, Misplaced, NoSuchPlace, RuleA, RuleB, BadContents, BadNumber, BadText, BadIndex}

-- a breach has no bit of the number
breach_above : (b : Breach) → breach_bits b % 256 ≡ 0
breach_above (Record c) = omega arith
breach_above (Face c j) = omega arith
breach_above (Law c j l) = omega arith

pub number_in_word : (r : Refusal) → packed_of r % 256 ≡ number_of r
number_in_word Length = refl
number_in_word (Invalid b) = omega (arith, breach_above b)
number_in_word NotLive = refl
number_in_word SameCell = refl
number_in_word DimensionsDiffer = refl
number_in_word FacesDiffer = refl
number_in_word NotClosed = refl
number_in_word TopMarked = refl
number_in_word NoRoom = refl
number_in_word TooLarge = refl
number_in_word Misplaced = refl
number_in_word NoSuchPlace = refl
number_in_word (RuleA c) = omega arith
number_in_word (RuleB c) = omega arith
number_in_word BadContents = refl
number_in_word BadNumber = refl
number_in_word BadText = refl
number_in_word BadIndex = refl

pub word_above_zero : (r : Refusal) → 0 < packed_of r
word_above_zero r = omega (arith, number_above_zero r, number_in_word r)

-- The refusal that a word tells, field by field: the way back.

abbrev breach_of : ℕ → ℕ → ℕ → ℕ → Breach
breach_of k c j l = pick (eqb k 1) (Record c) (pick (eqb k 2) (Face c j) (Law c j l))

abbrev breach_in : ℕ → Breach
breach_in w = breach_of (w / 256 % 4) (w / 65536) (w / 1024 % 8) (w / 8192 % 8)

-- the refusal of number n in the word w
abbrev refusal_in : ℕ → ℕ → Refusal
refusal_in n w =
    pick (eqb n 1) Length
    (pick (eqb n 2) (Invalid (breach_in w))
    (pick (eqb n 3) NotLive
    (pick (eqb n 4) SameCell
    (pick (eqb n 5) DimensionsDiffer
    (pick (eqb n 6) FacesDiffer
    (pick (eqb n 7) NotClosed
    (pick (eqb n 8) TopMarked
    (pick (eqb n 9) NoRoom
    (pick (eqb n 10) TooLarge
    (pick (eqb n 11) Misplaced
    (pick (eqb n 12) NoSuchPlace
    (pick (eqb n 13) (RuleA (w / 65536))
    (pick (eqb n 14) (RuleB (w / 65536))
    (pick (eqb n 15) BadContents
    (pick (eqb n 16) BadNumber
    (pick (eqb n 17) BadText
    BadIndex))))))))))))))))

abbrev told : ℕ → Refusal
told w = refusal_in (w % 256) w

record_told : (w c : ℕ) → w / 256 % 4 ≡ 1 → w / 65536 ≡ c → breach_in w ≡ Record c
record_told w c k p = rw (k, p)

face_told : (w c j : ℕ) → w / 256 % 4 ≡ 2 → w / 65536 ≡ c → w / 1024 % 8 ≡ j → breach_in w ≡ Face c j
face_told w c j k p q = rw (k, p, q)

law_told : (w c j l : ℕ) → w / 256 % 4 ≡ 3 → w / 65536 ≡ c → w / 1024 % 8 ≡ j → w / 8192 % 8 ≡ l → breach_in w ≡ Law c j l
law_told w c j l k p q r = rw (k, p, q, r)

breach_back : (b : Breach) → BreachFits b → breach_in (2 + breach_bits b) ≡ b
breach_back (Record c) f = record_told (2 + breach_bits (Record c)) c (omega arith) (omega arith)
breach_back (Face c j) (f, g) =
    face_told (2 + breach_bits (Face c j)) c j (omega arith) (omega arith) (omega arith)
breach_back (Law c j l) (f, g, h) =
    law_told (2 + breach_bits (Law c j l)) c j l (omega arith) (omega arith) (omega arith) (omega arith)

word_back : (r : Refusal) → WordFits r → told (packed_of r) ≡ r
word_back Length f = refl
word_back (Invalid b) f = ap (λ n. refusal_in n (2 + breach_bits b)) (number_in_word (Invalid b)) ∙ ap Invalid (breach_back b f)
word_back NotLive f = refl
word_back SameCell f = refl
word_back DimensionsDiffer f = refl
word_back FacesDiffer f = refl
word_back NotClosed f = refl
word_back TopMarked f = refl
word_back NoRoom f = refl
word_back TooLarge f = refl
word_back Misplaced f = refl
word_back NoSuchPlace f = refl
word_back (RuleA c) f = ap (λ n. refusal_in n (packed_of (RuleA c))) (number_in_word (RuleA c)) ∙ ap RuleA (omega arith)
word_back (RuleB c) f = ap (λ n. refusal_in n (packed_of (RuleB c))) (number_in_word (RuleB c)) ∙ ap RuleB (omega arith)
word_back BadContents f = refl
word_back BadNumber f = refl
word_back BadText f = refl
word_back BadIndex f = refl

pub word_tells : (r r' : Refusal) → WordFits r → WordFits r' → packed_of r ≡ packed_of r' → r ≡ r'
word_tells r r' f f' e = sym (word_back r f) ∙ ap told e ∙ word_back r' f'

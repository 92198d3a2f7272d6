-- Words as a set of numbers: bit b of word w stands for 64·w + b.
-- A reader must believe these definitions; nothing here is proved.
use Rattle.std.specs.Prelude.{◌≡◌, Bool, true, List, [], ◌∷◌, ℕ, ◌+◌, ◌*◌, ◌/◌, ◌%◌, ◌^◌, ◌<◌, length, get_or, set, eqb, ◌==◌, Option, None, Some}
use Rattle.std.specs.Int.Bits.{bit_xor}
use Rattle.std.specs.List.{list_all}

-- bits in a word
abbrev pub bits : ℕ
bits = 64

-- the words that a set of numbers below n takes
abbrev pub words_for : ℕ → ℕ
words_for n = (n + 63) / bits

-- the words of a largest set
abbrev pub full_width : ℕ
full_width = 8

-- binary digit k of n, 0 or 1
unfoldable pub digit : ℕ → ℕ → ℕ
digit n k = n / 2 ^ k % 2

-- 1 where c is in the set that the words stand for, else 0; past the last word nothing is in
unfoldable pub mark : List ℕ → ℕ → ℕ
mark ws c = digit (get_or ws (c / bits) 0) (c % bits)

unfoldable pub member : List ℕ → ℕ → Bool
member ws c = eqb (mark ws c) 1

-- the set with c put in or taken out
unfoldable pub toggled : List ℕ → ℕ → List ℕ
toggled ws c = set ws (c / bits) (bit_xor (get_or ws (c / bits) 0) (2 ^ (c % bits)))

-- the sum of two sets mod 2, word by word
unfoldable pub sum_of : List ℕ → List ℕ → List ℕ
sum_of [] ys = []
sum_of (x ∷ xs) [] = x ∷ xs
sum_of (x ∷ xs) (y ∷ ys) = bit_xor x y ∷ sum_of xs ys

-- b is the lowest bit of the word v
pub record IsLowest (v b : ℕ) : Type 0 where
  pub inside : b < bits
  pub set : digit v b ≡ 1
  pub below : (k : ℕ) → k < b → digit v k ≡ 0

-- m is the largest member
pub record IsLargestIn (ws : List ℕ) (m : ℕ) : Type 0 where
  pub inside : m < bits * length ws
  pub in_set : mark ws m ≡ 1
  pub above : (s : ℕ) → m < s → mark ws s ≡ 0

abbrev pub LargestIs : List ℕ → Option ℕ → Type 0
LargestIs ws None = (s : ℕ) → mark ws s ≡ 0
LargestIs ws (Some m) = IsLargestIn ws m

-- every word is 0
abbrev pub nothing_in : List ℕ → Bool
nothing_in ws = list_all (λ w. w == 0) ws

-- every member of xs is in ys; and r says whether it is so
abbrev pub Inside : List ℕ → List ℕ → Type 0
Inside xs ys = (s : ℕ) → mark xs s ≡ 1 → mark ys s ≡ 1

pub record IsWithin (xs ys : List ℕ) (r : Bool) : Type 0 where
  pub says : r ≡ true → Inside xs ys
  pub said : Inside xs ys → r ≡ true

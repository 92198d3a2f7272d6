-- A part list as text: a count on the first line, then lines of 1 to 7 indices.
-- A reader must believe these definitions; nothing here is proved.
use Rattle.std.specs.Prelude.{◌≡◌, List, [], ◌∷◌, ◌++◌, ℕ, zero, suc, ◌+◌, ◌/◌, ◌%◌, ◌≤◌, ◌<◌, length, ltb}
use Rattle.counting.specs.Counting.{pick}

-- the byte that ends a line, the one between two numbers, and the digit 0
abbrev pub newline : ℕ
newline = 10

abbrev pub space : ℕ
space = 32

abbrev pub digit_zero : ℕ
digit_zero = 48

-- a digit's byte
pub record Digit (c : ℕ) : Type 0 where
  pub low : digit_zero ≤ c
  pub high : c < digit_zero + 10

-- the most digits of a number, and the first number that has more
abbrev pub most_digits : ℕ
most_digits = 5

abbrev pub numbers_end : ℕ
numbers_end = 100000

-- the most numbers on a line
abbrev pub longest_line : ℕ
longest_line = 7

-- the digits of n, at most k of them, with no leading zero but in 0 itself
unfoldable pub digits : ℕ → ℕ → List ℕ
digits zero n = []
digits (suc k) n = pick (ltb n 10) ((digit_zero + n) ∷ []) (digits k (n / 10) ++ ((digit_zero + n % 10) ∷ []))

-- a number as it is written
unfoldable pub numeral : ℕ → List ℕ
numeral n = digits most_digits n

-- what follows the first number of a line: a space before each further number, and the newline
unfoldable pub line_rest : List ℕ → List ℕ
line_rest [] = newline ∷ []
line_rest (a ∷ l) = space ∷ (numeral a ++ line_rest l)

-- a line with its newline; a line of no number is empty
unfoldable pub line_text : List ℕ → List ℕ
line_text [] = newline ∷ []
line_text (a ∷ l) = numeral a ++ line_rest l

unfoldable pub lines_text : List (List ℕ) → List ℕ
lines_text [] = []
lines_text (l ∷ ls) = line_text l ++ lines_text ls

-- the count on its line, then the lines
unfoldable pub text_of : ℕ → List (List ℕ) → List ℕ
text_of n ls = numeral n ++ newline ∷ lines_text ls

-- all numbers of l are below n
abbrev pub AllBelow : ℕ → List ℕ → Type 0
AllBelow n [] = Unit
AllBelow n (a ∷ l) = (a < n) × AllBelow n l

-- 1 to 7 numbers of at most 5 digits
pub record IsLine (l : List ℕ) : Type 0 where
  pub some : 1 ≤ length l
  pub most : length l ≤ longest_line
  pub short : AllBelow numbers_end l

abbrev pub AllLines : List (List ℕ) → Type 0
AllLines [] = Unit
AllLines (l ∷ ls) = IsLine l × AllLines ls

-- the text reads as the count n and the lines ls
pub record IsList (text : List ℕ) (n : ℕ) (ls : List (List ℕ)) : Type 0 where
  pub is_text : text ≡ text_of n ls
  pub count : n < numbers_end
  pub lines : AllLines ls

-- it reads as no part list
abbrev pub NoList : List ℕ → Type 0
NoList text = (n : ℕ) (ls : List (List ℕ)) → IsList text n ls → ⊥

-- What a text reads as: a count and lines, or nothing. Every text is one of the two, and reads as one list at most.
pub data Reading (text : List ℕ) : Type 0 where
  list : (n : ℕ) (ls : List (List ℕ)) → IsList text n ls → Reading text
  none : NoList text → Reading text

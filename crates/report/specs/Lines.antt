-- The text of a report: numbers in decimal digits, one space between, every line ended by one newline byte.
-- A reader must believe these definitions; nothing here is proved.
use Rattle.std.specs.Prelude.{List, [], ◌∷◌, ◌++◌, ℕ, ◌+◌, ◌*◌, ◌/◌, ◌%◌, ltb}
use Rattle.counting.specs.Counting.{pick}
use Rattle.sketch.specs.Form.{pieces}
use Rattle.table.specs.Kind.{dimensions}

-- the byte of a digit
abbrev pub digit : ℕ → ℕ
digit d = d + 48

-- the decimal digits of a number below 1000, as bytes
unfoldable pub decimal : ℕ → List ℕ
decimal v =
    pick (ltb v 10) (digit v ∷ [])
    (pick (ltb v 100) (digit (v / 10) ∷ digit (v % 10) ∷ []) (digit (v / 100) ∷ digit (v / 10 % 10) ∷ digit (v % 10) ∷ []))

abbrev pub space : ℕ
space = 32

abbrev pub newline : ℕ
newline = 10

-- dimension, live cells, hole number
unfoldable pub line : ℕ → ℕ → ℕ → List ℕ
line p n h = decimal p ++ (space ∷ decimal n) ++ (space ∷ decimal h) ++ (newline ∷ [])

-- seven lines, for dimension 0 to 6
unfoldable pub lines_of : (ℕ → ℕ) → (ℕ → ℕ) → List ℕ
lines_of n h = pieces (λ p. line p (n p) (h p)) dimensions

-- the word 'refused' with the space after it, and the number
abbrev pub refused_word : List ℕ
refused_word = 114 ∷ 101 ∷ 102 ∷ 117 ∷ 115 ∷ 101 ∷ 100 ∷ space ∷ []

unfoldable pub refused_line : ℕ → List ℕ
refused_line r = refused_word ++ (decimal r ++ (newline ∷ []))

-- the bytes that a text has room for
abbrev pub room : ℕ
room = 96

-- the most digits of a number, and the most bytes of a line: three numbers, each with one byte after it
abbrev pub longest_number : ℕ
longest_number = 3

abbrev pub longest_line : ℕ
longest_line = 3 * (longest_number + 1)

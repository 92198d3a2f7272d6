-- What the scanner of a part list answers, on any bytes: what stands at a place of the text, or that nothing of its kind does.
-- A reader must believe these definitions; nothing here is proved.
use Rattle.std.specs.Prelude.{◌≡◌, Bool, true, false, List, [], ◌∷◌, ◌++◌, ℕ, ◌+◌, ◌≤◌, ◌<◌, length, get_or, drop, Option, Some, None, Result, Ok, Err}
use Rattle.calls.specs.declared.Refusal.{Refusal}
use Rattle.calls.specs.declared.Refusal.TheVariants.{BadText, BadIndex}
use Rattle.partlist.specs.Text.{digit_zero, numbers_end, numeral, line_text, text_of, Digit, IsLine, IsList, NoList}
use Rattle.partlist.specs.Indices.{list_fits}

-- d is the digit at the byte c
pub record ReadsDigit (c d : ℕ) : Type 0 where
  pub small : d < 10
  pub byte : c ≡ digit_zero + d

-- the value of a digit's byte, and none of any other byte
abbrev pub DigitIs : ℕ → Option ℕ → Type 0
DigitIs c (Some d) = ReadsDigit c d
DigitIs c None = Digit c → ⊥

-- a number stands at a place of the text, up to the place i of a byte that is no digit
pub record ReadsNumber (text : List ℕ) (at v i : ℕ) : Type 0 where
  pub value : v < numbers_end
  pub inside : i < length text
  pub onward : at ≤ i
  pub reads : drop at text ≡ numeral v ++ drop i text
  pub ended : Digit (get_or text i 0) → ⊥

-- no number stands there before a byte that is no digit
abbrev pub NoNumber : List ℕ → Type 0
NoNumber s = (a c : ℕ) (r : List ℕ) → a < numbers_end → (Digit c → ⊥) → s ≡ numeral a ++ c ∷ r → ⊥

abbrev pub NumberAt : List ℕ → ℕ → Option (ℕ × ℕ) → Type 0
NumberAt text at (Some (v, i)) = ReadsNumber text at v i
NumberAt text at None = NoNumber (drop at text)

-- the line xs stands at a place of the text, and the next one begins at i
pub record ReadsLine (text : List ℕ) (at : ℕ) (xs : List ℕ) (i : ℕ) : Type 0 where
  pub line : IsLine xs
  pub inside : i ≤ length text
  pub onward : at < i
  pub reads : drop at text ≡ line_text xs ++ drop i text

-- no line stands there
abbrev pub NoLine : List ℕ → Type 0
NoLine s = (l q : List ℕ) → IsLine l → s ≡ line_text l ++ q → ⊥

abbrev pub LineAt : List ℕ → ℕ → Option (List ℕ × ℕ) → Type 0
LineAt text at (Some (xs, i)) = ReadsLine text at xs i
LineAt text at None = NoLine (drop at text)

-- the count n stands on the first line, and the lines of indices begin at `at`
pub record Opens (text : List ℕ) (n at : ℕ) : Type 0 where
  pub short : n < numbers_end
  pub inside : at ≤ length text
  pub reads : text ≡ text_of n [] ++ drop at text

-- the count line: the number on it, and the place where the first line of indices begins
abbrev pub CountAt : List ℕ → Option (ℕ × ℕ) → Type 0
CountAt text (Some (n, i)) = Opens text n i
CountAt text None = NoList text

-- the text reads as the count n and some lines, whose indices fit or do not
pub record Scanned (text : List ℕ) (n : ℕ) (fit : Bool) : Type 0 where
  pub lines : List (List ℕ)
  pub is_list : IsList text n lines
  pub fits : list_fits n lines ≡ fit

-- the count and the place of the first line of indices, where the text is a part list whose indices fit
abbrev pub ScanIs : List ℕ → Result (ℕ × ℕ) Refusal → Type 0
ScanIs text (Ok (n, at)) = Opens text n at × Scanned text n true
ScanIs text (Err BadText) = NoList text
ScanIs text (Err BadIndex) = (n : ℕ) × Scanned text n false
ScanIs text (Err _) = ⊥

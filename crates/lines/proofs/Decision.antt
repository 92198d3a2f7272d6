-- Every text reads as a part list or as none.
-- What carries it: the text is gone through from the front, number by number and line by line, by the laws that the scanner's
-- functions use; each step leaves less of it. Assumes nothing.
use mathlib.Core.Path.{◌≡◌, refl}
use mathlib.Core.Bool.{Bool, true, ◌&&◌}
use mathlib.Core.Logic.{inl, inr, ⊎_elim}
use mathlib.Core.List.{List, [], ◌∷◌, ◌++◌}
use Prim.Native.Nat.{ℕ, zero, suc, ◌+◌, ◌-◌, ◌*◌, ◌≤◌, ◌<◌}
use native.Mathlib.Omega.{arith}
use lib.ListN.{length, get_or, drop, length-append}
use Rattle.counting.proofs.Cases.{below_or_not, same_or_not}
use Rattle.partlist.specs.Text.{newline, space, digit_zero, most_digits, longest_line, Reading, Digit}
use Rattle.partlist.specs.Text.Reading.{list, none}
use Rattle.partlist.specs.Indices.{line_fits}
use Rattle.lines.specs.Scans.{ReadsDigit, ReadsNumber, NoNumber, ReadsLine, NoLine, Opens}
use Rattle.lines.proofs.Numbers.{Begun, begun_none, begun_more, number_read, none_at_once, none_ended, none_sixth, none_zero}
use Rattle.lines.proofs.LineReads.{Led, led_none, led_more, line_read, none_number, none_eighth, none_byte}
use Rattle.lines.proofs.Counts.{no_count, count_read, no_newline}
use Rattle.lines.proofs.Wholes.{Onto, onto_first, onto_more, all_read, line_missing}

-- ---- a number

-- a byte is the digit d, or no digit
data Byte (c : ℕ) : Type 0 where
  is_digit : (d : ℕ) → ReadsDigit c d → Byte c
  no_digit : (Digit c → ⊥) → Byte c

byte : (c : ℕ) → Byte c
byte c = ⊎_elim (λ h. no_digit (λ d. omega (arith, h, d.low))) high (below_or_not c digit_zero)
  where
    high : digit_zero ≤ c → Byte c
    high h =
        ⊎_elim
        (λ l. is_digit (c - digit_zero) (record { small = l; byte = omega arith }))
        (λ l. no_digit (λ d. omega (arith, l, d.high)))
        (below_or_not (c - digit_zero) 10)

data NumberThere (text : List ℕ) (at : ℕ) : Type 0 where
  number : (v i : ℕ) → ReadsNumber text at v i → NumberThere text at
  no_number : NoNumber (drop at text) → NumberThere text at

module _ (text : List ℕ) (at k v : ℕ) (b : Begun text at k v) (h : at + k < length text) (on : (w : ℕ) → Begun text at (k + 1) w → NumberThere text at) where
  -- the byte behind k digits ends the number, or is one more, or no number stands there
  after_digits : Byte (get_or text (at + k) 0) → NumberThere text at
  after_digits (no_digit e) =
      ⊎_elim
      (λ z. no_number (none_at_once text at k v b h z e))
      (λ ne. number v (at + k) (number_read text at k v b h (omega (arith, ne)) e))
      (same_or_not k 0)
  after_digits (is_digit d r) =
      ⊎_elim
      (λ five. no_number (none_sixth text at k v b d h five r))
      (λ few. ⊎_elim
      (λ z. ⊎_elim
      (λ first. on (v * 10 + d) (begun_more text at k v b d h (omega (arith, few, b.few)) r (inl first)))
      (λ later. no_number (none_zero text at k v b d h z later r))
      (same_or_not k 0))
      (λ some. on (v * 10 + d) (begun_more text at k v b d h (omega (arith, few, b.few)) r (inr (omega (arith, some)))))
      (same_or_not v 0))
      (same_or_not k most_digits)

number_from : (text : List ℕ) (at left k v : ℕ) → Begun text at k v → length text ≤ at + k + left → NumberThere text at
number_from text at zero k v b h = no_number (none_ended text at k v b (omega arith))
number_from text at (suc left) k v b h =
    ⊎_elim
    (λ l. after_digits text at k v b l (λ w b'. number_from text at left (k + 1) w b' (omega arith)) (byte (get_or text (at + k) 0)))
    (λ l. no_number (none_ended text at k v b l))
    (below_or_not (at + k) (length text))

number_there : (text : List ℕ) (at : ℕ) → at ≤ length text → NumberThere text at
number_there text at h = number_from text at (length text) 0 0 (begun_none text at h) (omega arith)

-- ---- a line

data LineThere (text : List ℕ) (at : ℕ) : Type 0 where
  line : (l : List ℕ) (i : ℕ) → ReadsLine text at l i → LineThere text at
  no_line : NoLine (drop at text) → LineThere text at

module _
    (text : List ℕ) (at : ℕ) (xs : List ℕ) (i : ℕ) (led : Led text at xs i) (few : length xs < longest_line)
    (on : (v m : ℕ) → Led text at (xs ++ (v ∷ [])) (m + 1) → LineThere text at) where
  -- a number, and the byte behind it
  after_number : NumberThere text i → LineThere text at
  after_number (no_number bad) = no_line (none_number text at xs i led bad)
  after_number (number v m r) =
      ⊎_elim
      (λ e. line (xs ++ (v ∷ [])) (m + 1) (line_read text at xs i led v m r few e))
      (λ ne. ⊎_elim
      (λ e. on v m (led_more text at xs i led v m r e))
      (λ ne'. no_line (none_byte text at xs i led v m r ne ne'))
      (same_or_not (get_or text m 0) space))
      (same_or_not (get_or text m 0) newline)

line_from : (text : List ℕ) (at left : ℕ) (xs : List ℕ) (i : ℕ) → Led text at xs i → longest_line ≤ length xs + left → LineThere text at
line_from text at zero xs i led h = no_line (none_eighth text at xs i led (omega arith))
line_from text at (suc left) xs i led h =
    ⊎_elim
    (λ few.
    after_number text at xs i led few
    (λ v m led'. line_from text at left (xs ++ (v ∷ [])) (m + 1) led' (omega (arith, length-append xs (v ∷ []))))
    (number_there text i led.inside))
    (λ long. no_line (none_eighth text at xs i led long))
    (below_or_not (length xs) longest_line)

line_there : (text : List ℕ) (at : ℕ) → at ≤ length text → LineThere text at
line_there text at h = line_from text at longest_line [] at (led_none text at h) (omega arith)

-- ---- the whole text

module _
    (text : List ℕ) (n at : ℕ) (fit : Bool) (o : Onto text n at fit) (h : at < length text)
    (on : (i : ℕ) (b : Bool) → at < i → Onto text n i b → Reading text) where
  after_line : LineThere text at → Reading text
  after_line (no_line bad) = none (line_missing text n at fit o h bad)
  after_line (line l i r) = on i (fit && line_fits n l) r.onward (onto_more text n at fit o l i (line_fits n l) r refl)

lines_from : (text : List ℕ) (n left at : ℕ) (fit : Bool) → Onto text n at fit → length text ≤ at + left → Reading text
lines_from text n zero at fit o h = let w = all_read text n at fit o (omega arith) in list n w.lines w.is_list
lines_from text n (suc left) at fit o h =
    ⊎_elim
    (λ l. after_line text n at fit o l (λ i b m o'. lines_from text n left i b o' (omega arith)) (line_there text at o.inside))
    (λ l. let w = all_read text n at fit o l in list n w.lines w.is_list)
    (below_or_not at (length text))

pub reading : (text : List ℕ) → Reading text
reading text = go (number_there text 0 (omega arith))
  where
    opens : (v m : ℕ) → ReadsNumber text 0 v m → get_or text m 0 ≡ newline → Opens text v (m + 1)
    opens v m r e = record { short = r.value; inside = omega (arith, r.inside); reads = count_read text v m r e }

    go : NumberThere text 0 → Reading text
    go (no_number bad) = none (no_count text bad)
    go (number v m r) =
        ⊎_elim
        (λ e. lines_from text v (length text) (m + 1) true (onto_first text v (m + 1) (opens v m r e)) (omega arith))
        (λ ne. none (no_newline text v m r ne))
        (same_or_not (get_or text m 0) newline)

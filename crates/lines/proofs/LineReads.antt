-- A line that is read number by number: the state on the way, the end, and the ways in which no line stands there.
-- What carries it: each number passed stands before a space, so it is a number of any line that stands there. Assumes nothing.
use mathlib.Core.Path.{◌≡◌, refl, sym, ap, ap₂, ◌∙◌}
use mathlib.Core.List.{List, [], ◌∷◌, ◌++◌, append_assoc}
use Prim.Native.Nat.{ℕ, suc, ◌+◌, ◌≤◌, ◌<◌}
use native.Mathlib.Omega.{arith}
use lib.ListN.{length, get_or, drop, length-append}
use lib.Seq.{drop-cons}
use Rattle.partlist.specs.Text.{newline, space, numbers_end, longest_line, numeral, line_rest, line_text, AllBelow, Digit}
use Rattle.partlist.proofs.Numerals.{numeral_unique}
use Rattle.partlist.proofs.Reading.{newline_no_digit, space_no_digit}
use Rattle.lines.specs.Scans.{ReadsNumber, NoNumber, ReadsLine, NoLine}

-- numbers, each with a space behind it
pub spaced : List ℕ → List ℕ
spaced [] = []
spaced (a ∷ l) = numeral a ++ (space ∷ spaced l)

below_more : (n : ℕ) (xs : List ℕ) (v : ℕ) → AllBelow n xs → v < n → AllBelow n (xs ++ (v ∷ []))
below_more n [] v h l = (l, tt)
below_more n (a ∷ xs) v h l = (h.0, below_more n xs v h.1 l)

spaced_more : (xs : List ℕ) (v : ℕ) (r : List ℕ) → spaced (xs ++ (v ∷ [])) ++ r ≡ spaced xs ++ (numeral v ++ (space ∷ r))
unfolding spaced
spaced_more [] v r = append_assoc (numeral v) (space ∷ []) r
spaced_more (a ∷ xs) v r =
    append_assoc (numeral a) (space ∷ spaced (xs ++ (v ∷ []))) r
    ∙ ap (λ (x : List ℕ). numeral a ++ (space ∷ x)) (spaced_more xs v r)
    ∙ sym (append_assoc (numeral a) (space ∷ spaced xs) (numeral v ++ (space ∷ r)))

rest_last : (xs : List ℕ) (v : ℕ) (r : List ℕ) → line_rest (xs ++ (v ∷ [])) ++ r ≡ space ∷ (spaced xs ++ (numeral v ++ (newline ∷ r)))
unfolding spaced line_rest
rest_last [] v r = ap (λ (x : List ℕ). space ∷ x) (append_assoc (numeral v) (newline ∷ []) r)
rest_last (a ∷ xs) v r =
    ap (λ (x : List ℕ). space ∷ x)
    (append_assoc (numeral a) (line_rest (xs ++ (v ∷ []))) r
    ∙ ap (λ (x : List ℕ). numeral a ++ x) (rest_last xs v r)
    ∙ sym (append_assoc (numeral a) (space ∷ spaced xs) (numeral v ++ (newline ∷ r))))

line_last : (xs : List ℕ) (v : ℕ) (r : List ℕ) → line_text (xs ++ (v ∷ [])) ++ r ≡ spaced xs ++ (numeral v ++ (newline ∷ r))
unfolding spaced line_rest line_text
line_last [] v r = append_assoc (numeral v) (newline ∷ []) r
line_last (a ∷ xs) v r =
    append_assoc (numeral a) (line_rest (xs ++ (v ∷ []))) r
    ∙ ap (λ (x : List ℕ). numeral a ++ x) (rest_last xs v r)
    ∙ sym (append_assoc (numeral a) (space ∷ spaced xs) (numeral v ++ (newline ∷ r)))

-- the rest of a line begins with a newline or a space
record RestBegins (s : List ℕ) : Type 0 where
  byte : ℕ
  later : List ℕ
  joined : s ≡ byte ∷ later
  no_digit : Digit byte → ⊥
  newline_or_space : (byte ≡ newline → ⊥) → byte ≡ space

rest_begins : (l q : List ℕ) → RestBegins (line_rest l ++ q)
unfolding line_rest
rest_begins [] q = record { byte = newline; later = q; joined = refl; no_digit = newline_no_digit; newline_or_space = λ h. absurd (h refl) }
rest_begins (a ∷ l) q =
    record { byte = space; later = (numeral a ++ line_rest l) ++ q; joined = refl; no_digit = space_no_digit; newline_or_space = λ h. refl }

-- numbers that were passed are the first ones of any line there, and it has another
pub record Passed (xs l r q : List ℕ) : Type 0 where
  pub first : ℕ
  pub others : List ℕ
  pub joined : l ≡ xs ++ (first ∷ others)
  pub short : first < numbers_end
  pub left : r ≡ numeral first ++ (line_rest others ++ q)

passed :
    (xs l r q : List ℕ) → AllBelow numbers_end xs → 1 ≤ length l → AllBelow numbers_end l → spaced xs ++ r ≡ line_text l ++ q →
    Passed xs l r q
unfolding spaced line_text line_rest
passed [] [] r q h some h' e = absurd (omega arith)
passed [] (b ∷ l) r q h some h' e =
    record { first = b; others = l; joined = refl; short = h'.0; left = e ∙ append_assoc (numeral b) (line_rest l) q }
passed (a ∷ xs) [] r q h some h' e = absurd (omega arith)
passed (a ∷ xs) (b ∷ []) r q h some h' e =
    let i = numeral_unique a b h.0 h'.0 space_no_digit newline_no_digit
    (sym (append_assoc (numeral a) (space ∷ spaced xs) r) ∙ e ∙ append_assoc (numeral b) (newline ∷ []) q) in
    absurd (omega (arith, i.1))
passed (a ∷ xs) (b ∷ (d ∷ l)) r q h some h' e =
    let i = numeral_unique a b h.0 h'.0 space_no_digit space_no_digit
    (sym (append_assoc (numeral a) (space ∷ spaced xs) r) ∙ e ∙ append_assoc (numeral b) (space ∷ (numeral d ++ line_rest l)) q) in
    let k = passed xs (d ∷ l) r q h.1 (omega arith) h'.1 i.2 in
    record { first = k.first; others = k.others; joined = ap₂ ◌∷◌ (sym i.0) k.joined; short = k.short; left = k.left }

-- the numbers xs are passed, each with its space, up to the place i
pub record Led (text : List ℕ) (at : ℕ) (xs : List ℕ) (i : ℕ) : Type 0 where
  pub inside : i ≤ length text
  pub onward : at ≤ i
  pub short : AllBelow numbers_end xs
  pub reads : drop at text ≡ spaced xs ++ drop i text

pub led_none : (text : List ℕ) (at : ℕ) → at ≤ length text → Led text at [] at
unfolding spaced
led_none text at h = record { inside = h; onward = omega arith; short = tt; reads = refl }

module _ (text : List ℕ) (at : ℕ) (xs : List ℕ) (i : ℕ) (led : Led text at xs i) where
  -- no number where one must stand
  pub none_number : NoNumber (drop i text) → NoLine (drop at text)
  none_number bad l q h e =
      let p = passed xs l (drop i text) q led.short h.some h.short (sym led.reads ∙ e) in
      let b = rest_begins p.others q in
      bad p.first b.byte b.later p.short b.no_digit (p.left ∙ ap (λ (x : List ℕ). numeral p.first ++ x) b.joined)

  -- an eighth number
  pub none_eighth : longest_line ≤ length xs → NoLine (drop at text)
  none_eighth long l q h e =
      let p = passed xs l (drop i text) q led.short h.some h.short (sym led.reads ∙ e) in
      omega (arith, h.most, ap length p.joined, length-append xs (p.first ∷ p.others))

  module _ (v m : ℕ) (number : ReadsNumber text i v m) where
    text_from : drop at text ≡ spaced xs ++ (numeral v ++ (get_or text m 0 ∷ drop (suc m) text))
    text_from =
        led.reads
        ∙ ap (λ (x : List ℕ). spaced xs ++ x) (number.reads ∙ ap (λ (x : List ℕ). numeral v ++ x) (drop-cons text m 0 number.inside))

    pub led_more : get_or text m 0 ≡ space → Led text at (xs ++ (v ∷ [])) (m + 1)
    led_more e =
        let z : m + 1 ≡ suc m = omega arith in
        rw z
        (record {
          inside = number.inside;
          onward = omega (arith, led.onward, number.onward);
          short = below_more numbers_end xs v led.short number.value;
          reads = text_from ∙ ap (λ (x : ℕ). spaced xs ++ (numeral v ++ (x ∷ drop (suc m) text))) e ∙ sym (spaced_more xs v (drop (suc m) text));
        })

    pub line_read : length xs < longest_line → get_or text m 0 ≡ newline → ReadsLine text at (xs ++ (v ∷ [])) (m + 1)
    line_read few e =
        let z : m + 1 ≡ suc m = omega arith in
        rw z
        (record {
          line = record {
            some = omega (arith, length-append xs (v ∷ []));
            most = omega (arith, length-append xs (v ∷ []));
            short = below_more numbers_end xs v led.short number.value;
          };
          inside = number.inside;
          onward = omega (arith, led.onward, number.onward);
          reads = text_from ∙ ap (λ (x : ℕ). spaced xs ++ (numeral v ++ (x ∷ drop (suc m) text))) e ∙ sym (line_last xs v (drop (suc m) text));
        })

    -- another byte behind a number
    pub none_byte : (get_or text m 0 ≡ newline → ⊥) → (get_or text m 0 ≡ space → ⊥) → NoLine (drop at text)
    none_byte no_newline no-space l q h e =
        let p = passed xs l (drop i text) q led.short h.some h.short (sym led.reads ∙ e) in
        let b = rest_begins p.others q in
        let w : numeral v ++ (get_or text m 0 ∷ drop (suc m) text) ≡ numeral p.first ++ (b.byte ∷ b.later) =
        sym (number.reads ∙ ap (λ (x : List ℕ). numeral v ++ x) (drop-cons text m 0 number.inside))
        ∙ p.left ∙ ap (λ (x : List ℕ). numeral p.first ++ x) b.joined in
        let u = numeral_unique v p.first number.value p.short number.ended b.no_digit w in
        no-space (u.1 ∙ b.newline_or_space (λ k. no_newline (u.1 ∙ k)))

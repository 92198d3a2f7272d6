-- Laws of a text that grows: the bytes after it stay 0, a number has one, two or three digits, and the parts of a line follow each other.
-- What carries them: bytes put after bytes. Assumes nothing.
use mathlib.Core.Path.{◌≡◌, ap, sym, ◌∙◌}
use mathlib.Core.List.{List, [], ◌∷◌, ◌++◌, append_assoc}
use Prim.Native.Nat.{ℕ, ◌+◌, ◌-◌, ◌/◌, ◌%◌, ◌≤◌, ◌<◌}
use native.Mathlib.Omega.{arith}
use borrow.Author.Tests.{lt-ltb, le-ltb}
use lib.Dec.{ltb}
use lib.ListN.{length, length-append, drop, replicate}
use lib.Seq.{drop-drop}
use Rattle.std.proofs.lemmas.List.{drop-replicate}
use mathlib.Core.Bool.{Bool, true, false}
use Rattle.counting.specs.Counting.{pick}
use Rattle.report.specs.Lines.{digit, decimal, line, space, newline, room, longest_number, longest_line}

-- ---- the bytes after a text

-- also behind bytes that are put there
pub zeros_on : (bytes : List ℕ) (at end : ℕ) → at ≤ end → drop at bytes ≡ replicate (room - at) 0 → drop end bytes ≡ replicate (room - end) 0
zeros_on bytes at end l e =
    let far : at + (end - at) ≡ end = omega arith in
    let left : room - at - (end - at) ≡ room - end = omega arith in
    ap (λ (n : ℕ). drop n bytes) (sym far) ∙ sym (drop-drop (end - at) at bytes) ∙ ap (drop (end - at)) e
    ∙ drop-replicate (end - at) (room - at) 0 ∙ ap (λ (n : ℕ). replicate n 0) left

-- ---- a number

pub number_one : (v : ℕ) → v < 10 → decimal v ≡ digit v ∷ []
unfolding decimal
number_one v h = rw (lt-ltb v 10 h)

pub number_two : (v : ℕ) → 10 ≤ v → v < 100 → decimal v ≡ digit (v / 10) ∷ digit (v % 10) ∷ []
unfolding decimal
number_two v l h = rw (le-ltb v 10 l, lt-ltb v 100 h)

pub number_three : (v : ℕ) → 100 ≤ v → decimal v ≡ digit (v / 100) ∷ digit (v / 10 % 10) ∷ digit (v % 10) ∷ []
unfolding decimal
number_three v l = rw (le-ltb v 10 (omega arith), le-ltb v 100 l)

pick_short : (b : Bool) (x y : List ℕ) → length x ≤ longest_number → length y ≤ longest_number → length (pick b x y) ≤ longest_number
pick_short true x y h l = h
pick_short false x y h l = l

length-decimal-le : (v : ℕ) → length (decimal v) ≤ longest_number
unfolding decimal
length-decimal-le v =
    let one = digit v ∷ [] in
    let two = digit (v / 10) ∷ digit (v % 10) ∷ [] in
    let three = digit (v / 100) ∷ digit (v / 10 % 10) ∷ digit (v % 10) ∷ [] in
    pick_short (ltb v 10) one (pick (ltb v 100) two three) (omega arith) (pick_short (ltb v 100) two three (omega arith) (omega arith))

-- ---- a line

pub line_parts : (x : List ℕ) (p n h : ℕ) → (((((x ++ decimal p) ++ (space ∷ [])) ++ decimal n) ++ (space ∷ [])) ++ decimal h) ++ (newline ∷ []) ≡ x ++ line p n h
unfolding line
line_parts x p n h = simp append_assoc

-- ---- the length of what is put behind

pub length-push : (x : List ℕ) (b : ℕ) → length (x ++ (b ∷ [])) ≡ length x + 1
length-push x b = length-append x (b ∷ [])

pub length-number-le : (x : List ℕ) (v : ℕ) → length (x ++ decimal v) ≤ length x + longest_number
length-number-le x v = omega (arith, length-append x (decimal v), length-decimal-le v)

pub length-line-le : (x : List ℕ) (p n h : ℕ) → length (x ++ line p n h) ≤ length x + longest_line
unfolding line
length-line-le x p n h =
    simp (length-append) (omega (arith, length-decimal-le p, length-decimal-le n, length-decimal-le h))

pub ruleset lengths = (length-push, length-number-le, length-line-le)

-- Words, integers and answers compared by computation; where the test says true, the two are equal.
-- What carries it: induction on the first of the two. Assumes nothing.
use mathlib.Core.Path.{◌≡◌, refl, ap, ap₂}
use mathlib.Core.Bool.{Bool, true, false, ◌&&◌}
use mathlib.Core.List.{List, [], ◌∷◌}
use Prim.Native.Nat.{ℕ}
use borrow.Author.Tests.{eqb-true}
use lib.Dec.{eqb}
use lib.IntN.{ℤ, pos, negsuc}
use Rattle.counting.proofs.Cases.{and_left, and_right}
use Rattle.homology.proofs.Marks.{clash}
use Rattle.std.specs.declared.result.Result.{Result}
use Rattle.calls.specs.declared.Refusal.{Refusal}
use Rattle.std.specs.declared.result.Result.TheVariants.{Ok, Err}
use Rattle.cases.specs.Cases.{Answer}
use Rattle.cases.specs.Cases.Answer.{names, done, refused}

unfoldable pub same_words : List ℕ → List ℕ → Bool
same_words [] [] = true
same_words [] (y ∷ ys) = false
same_words (x ∷ xs) [] = false
same_words (x ∷ xs) (y ∷ ys) = eqb x y && same_words xs ys

pub same_words_lem : (xs ys : List ℕ) → same_words xs ys ≡ true → xs ≡ ys
unfolding same_words
same_words_lem [] [] e = refl
same_words_lem [] (y ∷ ys) e = clash e refl
same_words_lem (x ∷ xs) [] e = clash e refl
same_words_lem (x ∷ xs) (y ∷ ys) e =
    ap₂ ◌∷◌ (eqb-true x y (and_left (eqb x y) (same_words xs ys) e)) (same_words_lem xs ys (and_right (eqb x y) (same_words xs ys) e))

unfoldable pub same_integer : ℤ → ℤ → Bool
same_integer (pos a) (pos b) = eqb a b
same_integer (pos a) (negsuc b) = false
same_integer (negsuc a) (pos b) = false
same_integer (negsuc a) (negsuc b) = eqb a b

same_integer_lem : (x y : ℤ) → same_integer x y ≡ true → x ≡ y
unfolding same_integer
same_integer_lem (pos a) (pos b) e = ap pos (eqb-true a b e)
same_integer_lem (pos a) (negsuc b) e = clash e refl
same_integer_lem (negsuc a) (pos b) e = clash e refl
same_integer_lem (negsuc a) (negsuc b) e = ap negsuc (eqb-true a b e)

-- an answer that is this integer
unfoldable pub is_sum : Result ℤ Refusal → ℤ → Bool
is_sum (Ok x) z = same_integer x z
is_sum (Err r) z = false

pub is_sum_lem : (s : Result ℤ Refusal) (z : ℤ) → is_sum s z ≡ true → s ≡ Ok z
unfolding is_sum
is_sum_lem (Ok x) z e = ap Ok (same_integer_lem x z e)
is_sum_lem (Err r) z e = clash e refl

unfoldable pub same_answer : Answer → Answer → Bool
same_answer (names a) (names b) = eqb a b
same_answer (names a) done = false
same_answer (names a) (refused b) = false
same_answer done (names b) = false
same_answer done done = true
same_answer done (refused b) = false
same_answer (refused a) (names b) = false
same_answer (refused a) done = false
same_answer (refused a) (refused b) = eqb a b

pub same_answer_lem : (x y : Answer) → same_answer x y ≡ true → x ≡ y
unfolding same_answer
same_answer_lem (names a) (names b) e = ap names (eqb-true a b e)
same_answer_lem (names a) done e = clash e refl
same_answer_lem (names a) (refused b) e = clash e refl
same_answer_lem done (names b) e = clash e refl
same_answer_lem done done e = refl
same_answer_lem done (refused b) e = clash e refl
same_answer_lem (refused a) (names b) e = clash e refl
same_answer_lem (refused a) done e = clash e refl
same_answer_lem (refused a) (refused b) e = ap refused (eqb-true a b e)

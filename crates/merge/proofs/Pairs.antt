-- What the two cells say to being merged: the comparison of faces, and that the merge's own ground comes after those of the pair.
-- What carries it: each test is read as the fact that it tests; grounds that come first decide. Assumes nothing.
use mathlib.Core.Path.{◌≡◌, refl, ap₂, sym, ◌∙◌}
use mathlib.Core.Bool.{Bool, true, false, ◌&&◌}
use mathlib.Core.List.{List}
use Prim.Native.Nat.{ℕ, ◌<◌}
use borrow.Author.Tests.{eq-eqb, eqb-true, not-false}
use lib.Pointwise.{pointwise}
use lib.Dec.{eqb}
use Rattle.counting.proofs.Cases.{and_left, and_right}
use Rattle.table.specs.Kind.{faces}
use Rattle.table.specs.Table.{cells_of, face, faces_of, live}
use Rattle.audit.specs.Audit.{grounds}
use Rattle.calls.specs.Calls.{verdict}
use Rattle.calls.specs.declared.Refusal.{Refusal}
use Rattle.calls.specs.declared.Refusal.TheVariants.{FacesDiffer}
use Rattle.std.specs.declared.result.Result.TheVariants.{Ok, Err}
use Prim.{tt}
use Rattle.table.proofs.Records.{live_true}
use Rattle.counting.specs.Counting.{all}
use Rattle.calls.proofs.Grounds.{accepted_none_applies, accepted_first, refused_first}
use Rattle.counting.proofs.Tests.{all_true, all_says}
use Rattle.merge.specs.Merge.{same_faces, merge_verdict, pair_grounds, on_faces}

-- seven tests, gathered from the last or from the first
regrouped : (p q r s u v w : Bool) → (p && (q && (r && (s && (u && (v && (w && true))))))) ≡ ((((((p && q) && r) && s) && u) && v) && w)
regrouped false q r s u v w = refl
regrouped true false r s u v w = refl
regrouped true true false s u v w = refl
regrouped true true true false u v w = refl
regrouped true true true true false v w = refl
regrouped true true true true true false w = refl
regrouped true true true true true true false = refl
regrouped true true true true true true true = refl

module _ (t : List ℕ) (a b : ℕ) where
  -- all seven words agree exactly where the test says so
  pub same_faces_true : same_faces t a b ≡ true → (j : ℕ) → j < faces → face t a j ≡ face t b j
  unfolding same_faces
  same_faces_true e j h =
      eqb-true (face t a j) (face t b j) (all_true (λ j. eqb (face t a j) (face t b j)) faces e j h)

  pub same_faces_says : ((j : ℕ) → j < faces → face t a j ≡ face t b j) → same_faces t a b ≡ true
  unfolding same_faces
  same_faces_says each =
      all_says (λ j. eqb (face t a j) (face t b j)) faces (λ j h. eq-eqb (face t a j) (face t b j) (each j h))

  -- it is the comparison of the faces by value
  pub words_compared : (x y : List ℕ) → x ≡ faces_of t a → y ≡ faces_of t b → pointwise eqb x y ≡ same_faces t a b
  unfolding same_faces all
  words_compared x y e f =
      let s : ℕ → Bool = λ j. eqb (face t a j) (face t b j) in
      ap₂ (pointwise eqb) e f ∙ regrouped (s 0) (s 1) (s 2) (s 3) (s 4) (s 5) (s 6)

  -- what may not be joined is not merged; else the faces decide
  pub unjoinable_refuses : (r : Refusal) → verdict (grounds t (pair_grounds t a b)) ≡ Err r → Err r ≡ merge_verdict t a b
  unfolding merge_verdict
  unjoinable_refuses r e = sym (refused_first (grounds t (pair_grounds t a b)) (on_faces t a b) r e)

  module _ (e : verdict (grounds t (pair_grounds t a b)) ≡ Ok tt) where
    then_faces : merge_verdict t a b ≡ verdict (on_faces t a b)
    unfolding merge_verdict
    then_faces = accepted_first (grounds t (pair_grounds t a b)) (on_faces t a b) e

    pub faces_differ : same_faces t a b ≡ false → Err FacesDiffer ≡ merge_verdict t a b
    faces_differ g = sym (then_faces ∙ simp g)

    pub faces_agree : same_faces t a b ≡ true → (Ok tt) ≡ merge_verdict t a b
    faces_agree g = sym (then_faces ∙ simp g)

    pub joined_inside : (a < cells_of t) × (b < cells_of t)
    joined_inside =
        let k = accepted_none_applies (grounds t (pair_grounds t a b)) e in
        let both : (live t a && live t b) ≡ true = not-false (live t a && live t b) k.1.1.0 in
        ((live_true t a (and_left (live t a) (live t b) both)).inside, (live_true t b (and_right (live t a) (live t b) both)).inside)

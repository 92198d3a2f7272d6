-- Of two different live cells of one dimension in a valid table, exactly those with different face lists are refused, and the
-- refusal is that one.
-- What carries it: past the used places both have the free mark, so the lists agree where the seven words do. Assumes nothing.
use mathlib.Core.Path.{◌≡◌, refl, ap, ap₂, sym, ◌∙◌}
use mathlib.Core.Bool.{Bool, true, false, not}
use mathlib.Core.List.{List, []}
use mathlib.Core.Logic.{⊎_elim, ◌↔◌}
use Prim.Native.Nat.{ℕ, ◌<◌}
use native.Mathlib.Omega.{arith}
use borrow.Author.Tests.{eq-eqb, ne_eqb}
use lib.ListN.{get_or, take}
use lib.Seq.{ext_get_or, get_or-take}
use Rattle.counting.specs.Counting.{pick}
use Rattle.table.specs.Kind.{faces, used}
use Rattle.table.specs.Table.{dim, face, faces_of, Live, Valid}
use Rattle.calls.specs.declared.Refusal.{Refusal}
use Rattle.calls.specs.declared.Refusal.TheVariants.{FacesDiffer}
use Rattle.std.specs.declared.result.Result.TheVariants.{Ok, Err}
use Prim.{tt}
use Rattle.counting.proofs.Cases.{below_or_not}
use Rattle.table.proofs.Records.{faces_at, live_says}
use Rattle.audit.proofs.Valid.{valid_is_sound, valid_is_sized}
use Rattle.merge.specs.Merge.{face_list, same_faces, merge_verdict}
use Rattle.merge.proofs.Pairs.{same_faces_true, same_faces_says}

-- a used place of the list is the face there
listed_face : (t : List ℕ) (c j : ℕ) → j < faces → j < used (dim t c) → get_or (face_list t c) j 0 ≡ face t c j
unfolding face_list
listed_face t c j h l = get_or-take (used (dim t c)) (faces_of t c) j 0 l ∙ faces_at t c (faces_of t c) refl j h

module _ (t : List ℕ) (a b : ℕ) (d : dim t a ≡ dim t b) where
  pub words_give_lists : ((j : ℕ) → j < faces → face t a j ≡ face t b j) → face_list t a ≡ face_list t b
  unfolding face_list
  words_give_lists each =
      ap₂ take (ap used d)
      (ext_get_or 0 (faces_of t a) (faces_of t b) refl (λ j h. faces_at t a (faces_of t a) refl j h ∙ each j h ∙ sym (faces_at t b (faces_of t b) refl j h)))

  lists_give_words :
      Valid t → Live t a → Live t b → face_list t a ≡ face_list t b → (j : ℕ) → j < faces → face t a j ≡ face t b j
  lists_give_words v x y e j h =
      ⊎_elim
      (λ l. sym (listed_face t a j h l) ∙ ap (λ z. get_or z j 0) e ∙ listed_face t b j h (omega (arith, ap used d)))
      (λ l. v.unused a j x.inside l h ∙ sym (v.unused b j y.inside (omega (arith, ap used d)) h))
      (below_or_not j (used (dim t a)))

module _ (t : List ℕ) (a b : ℕ) (v : Valid t) (x : Live t a) (y : Live t b) (n : a ≡ b → ⊥) (d : dim t a ≡ dim t b) where
  only_faces : merge_verdict t a b ≡ pick (not (same_faces t a b)) (Err FacesDiffer) (Ok tt)
  unfolding merge_verdict
  only_faces =
      simp (valid_is_sized t v, valid_is_sound t v, live_says t a x, live_says t b y, ne_eqb a b n, eq-eqb (dim t a) (dim t b) d)

  decided : (s : Bool) → same_faces t a b ≡ s → merge_verdict t a b ≡ pick (not s) (Err FacesDiffer) (Ok tt)
  decided s e = only_faces ∙ ap (λ s. pick (not s) (Err FacesDiffer) (Ok tt)) e

  pub equal_lists_accepted : face_list t a ≡ face_list t b → merge_verdict t a b ≡ Ok tt
  equal_lists_accepted e = decided true (same_faces_says t a b (lists_give_words t a b d v x y e))

  different_lists_refused : (face_list t a ≡ face_list t b → ⊥) → merge_verdict t a b ≡ Err FacesDiffer
  different_lists_refused m = go (same_faces t a b) refl
    where
      go : (s : Bool) → same_faces t a b ≡ s → merge_verdict t a b ≡ Err FacesDiffer
      go true e = absurd (m (words_give_lists t a b d (same_faces_true t a b e)))
      go false e = decided false e

  pub merge_refused_iff_faces_differ : ((r : Refusal) × (merge_verdict t a b ≡ Err r)) ↔ (face_list t a ≡ face_list t b → ⊥)
  merge_refused_iff_faces_differ = (
    λ r e. let z : ◌≡◌ {A = ℕ} 0 1 = cc (r.1, equal_lists_accepted e) in omega arith,
    λ m. (FacesDiffer, different_lists_refused m),
  )

-- a point has no faces, so any two points may be merged
no_faces : (t : List ℕ) (c : ℕ) → dim t c ≡ 0 → face_list t c ≡ []
unfolding face_list
no_faces t c e = ap (λ (p : ℕ). take (used p) (faces_of t c)) e

pub points_accepted :
    (t : List ℕ) (a b : ℕ) → Valid t → Live t a → Live t b → (a ≡ b → ⊥) → dim t a ≡ 0 → dim t b ≡ 0 → merge_verdict t a b ≡ Ok tt
points_accepted t a b v x y n p q = equal_lists_accepted t a b v x y n (p ∙ sym q) (no_faces t a p ∙ sym (no_faces t b q))

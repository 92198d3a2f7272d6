-- Both orders of asking have one answer and leave one table; what an accepted merge leaves is valid and is the published
-- identification; a refused one leaves the table.
-- What carries it: every ground, and the map, is the same for both orders. Assumes nothing.
use mathlib.Core.Path.{◌≡◌, refl, ap, ap₂, sym, subst, ◌∙◌, fun_ext}
use mathlib.Core.Bool.{and_comm}
use mathlib.Core.List.{List}
use mathlib.Core.Logic.{⊎_elim}
use Prim.Native.Nat.{ℕ, min, max}
use native.Mathlib.Nat.{min_comm}
use borrow.Author.Tests.{eq-eqb, ne_eqb}
use lib.Dec.{eqb}
use Rattle.table.specs.Kind.{faces}
use Rattle.table.specs.Table.{dim, face, live, Valid}
use Rattle.counting.specs.Counting.{all}
use Rattle.calls.specs.Calls.{named, leaves, Ends}
use Rattle.calls.specs.declared.Refusal.{Refusal}
use Rattle.calls.specs.Calls.{Verdict}
use Rattle.std.specs.declared.result.Result.TheVariants.{Ok, Err}
use Prim.{tt}
use Rattle.counting.proofs.Cases.{same_or_not}
use Rattle.merge.specs.Merge.{IsIdentification, same_faces, merge_verdict, merged, merge_answer, merge_leaves}
use Rattle.merge.specs.Rename.{identify}
use Rattle.merge.proofs.Renaming.{renamed_alike, renamed_both_ways, identify_in_order}
use Rattle.merge.proofs.Verdicts.{merge_accepted}
use Rattle.merge.proofs.Identification.{merged_is_identification}
use Rattle.merge.proofs.Keeping.{merged_keeps_valid}

pub eqb_both_ways : (m n : ℕ) → eqb m n ≡ eqb n m
eqb_both_ways m n =
    ⊎_elim
    (λ e. eq-eqb m n e ∙ sym (eq-eqb n m (sym e)))
    (λ d. ne_eqb m n d ∙ sym (ne_eqb n m (λ e. d (sym e))))
    (same_or_not m n)

same_faces_both_ways : (t : List ℕ) (a b : ℕ) → same_faces t a b ≡ same_faces t b a
unfolding same_faces
same_faces_both_ways t a b = ap (all faces) (fun_ext (λ j. eqb_both_ways (face t a j) (face t b j)))

pub verdict_both_ways : (t : List ℕ) (a b : ℕ) → merge_verdict t a b ≡ merge_verdict t b a
unfolding merge_verdict
verdict_both_ways t a b =
    rw (and_comm (live t a) (live t b), eqb_both_ways a b, eqb_both_ways (dim t a) (dim t b), same_faces_both_ways t a b)

merged_both_ways : (t : List ℕ) (a b : ℕ) → merged t a b ≡ merged t b a
unfolding merged
merged_both_ways t a b = renamed_both_ways a b t

-- nor which of the two is the smaller
pub merged_in_order : (t : List ℕ) (a b l h : ℕ) → l ≡ min a b → h ≡ max a b → merged t l h ≡ merged t a b
unfolding merged
merged_in_order t a b l h low high = renamed_alike (identify l h) (identify a b) t (identify_in_order a b l h low high)

pub merge_answer_same_both_ways : (t : List ℕ) (a b : ℕ) → merge_answer t a b ≡ merge_answer t b a
merge_answer_same_both_ways t a b = ap₂ named (verdict_both_ways t a b) (min_comm a b)

pub merge_leaves_same_both_ways : (t : List ℕ) (a b : ℕ) → merge_leaves t a b ≡ merge_leaves t b a
merge_leaves_same_both_ways t a b =
    ap₂ (λ v u. leaves v u t) (verdict_both_ways t a b) (merged_both_ways t a b)

-- What is left is valid,
merge_keeps_valid : (t : List ℕ) (a b : ℕ) → merge_verdict t a b ≡ Ok tt → Valid (merged t a b)
merge_keeps_valid t a b e =
    let m = merge_accepted t a b e in
    merged_keeps_valid t a b m.pair.valid m.pair.first m.pair.second m.pair.same_dim m.same_faces_lem

pub merge_leaves_valid : (t : List ℕ) (a b : ℕ) → Valid t → Valid (merge_leaves t a b)
merge_leaves_valid t a b valid = go (merge_verdict t a b) refl
  where
    go : (v : Verdict) → merge_verdict t a b ≡ v → Valid (leaves v (merged t a b) t)
    go (Ok tt) e = merge_keeps_valid t a b e
    go (Err r) e = valid

-- and it is the published identification, or the table itself.
pub merge_accepted_leaves : (t : List ℕ) (a b : ℕ) → merge_verdict t a b ≡ Ok tt → IsIdentification t a b (merge_leaves t a b)
merge_accepted_leaves t a b e =
    let m = merge_accepted t a b e in
    subst (IsIdentification t a b) (sym (ap (λ v. leaves v (merged t a b) t) e))
    (merged_is_identification t a b m.pair.valid m.pair.first m.pair.second m.pair.different)

merge_refused_leaves : (t : List ℕ) (a b : ℕ) (r : Refusal) → merge_verdict t a b ≡ Err r → merge_leaves t a b ≡ t
merge_refused_leaves t a b r e = ap (λ v. leaves v (merged t a b) t) e

-- The ways out of the call.
pub ends_refused :
    (t : List ℕ) (a b : ℕ) (r : Refusal) → merge_verdict t a b ≡ Err r →
    Ends (merge_answer t a b) (merge_leaves t a b) (Err r) t
ends_refused t a b r e =
    record { answer = sym (ap (λ v. named v (min a b)) e); left = sym (merge_refused_leaves t a b r e) }

pub ends_accepted :
    (t : List ℕ) (a b c : ℕ) (u : List ℕ) → merge_verdict t a b ≡ Ok tt → c ≡ min a b → u ≡ merged t a b →
    Ends (merge_answer t a b) (merge_leaves t a b) (Ok c) u
ends_accepted t a b c u e m f =
    record {
      answer = ap Ok m ∙ sym (ap (λ v. named v (min a b)) e);
      left = f ∙ sym (ap (λ v. leaves v (merged t a b) t) e);
    }

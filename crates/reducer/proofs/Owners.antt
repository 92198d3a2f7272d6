-- The owners of largest cells: they stay where the rows below stay, and a finished row owns its largest cell, where it has one.
-- What carries it: a set has one largest member. Assumes nothing.
use mathlib.Core.Path.{◌≡◌, sym, subst, ◌∙◌}
use mathlib.Core.List.{List}
use Prim.Native.Nat.{ℕ, suc, ◌<◌}
use native.Mathlib.Omega.{arith}
use lib.ListN.{length, set}
use lib.Seq.{get_or-set_same, get_or-set_other}
use Rattle.homology.specs.Cells.{Cells}
use Rattle.homology.proofs.Marks.{by_order}
use Rattle.bitset.specs.Bits.{IsLargestIn}
use Rattle.bitset.proofs.LargestMember.{largest_unique}
use Rattle.counting.proofs.Cases.{same_or_other}
use Rattle.rows.specs.Rows.{row_of}
use Rattle.reducer.specs.Rule.{LargestOf}
use Rattle.reducer.specs.Work.{Bounds, Owned, Owners, owner_of}
use Rattle.std.specs.Prelude.{Option, None, Some}
use Rattle.reducer.proofs.Boundaries.{of_largest}

pub owned_stays : {K : Cells} {ev ev' kept : List ℕ} {owner : Owners} {c : ℕ} → ((b : ℕ) → b < c → row_of K ev' b ≡ row_of K ev b) → Owned K ev kept owner c → Owned K ev' kept owner c
owned_stays {K} {kept = kept} {owner} same own = record {
  free = λ m b q l g. own.free m b q l (subst (λ (x : List ℕ). LargestOf K x m) (same b l) g);
  earlier = own.earlier;
  bounds = λ m a h. subst (Bounds K (row_of K kept m)) (sym (same a (own.earlier m a h))) (own.bounds m a h);
  largest = own.largest;
}

module _ {K : Cells} {ev kept : List ℕ} {owner : Owners} {c : ℕ} (own : Owned K ev kept owner c) where
  -- a row whose boundary is empty owns nothing
  pub owned_more : ((m : ℕ) → LargestOf K (row_of K ev c) m → ⊥) → Owned K ev kept owner (suc c)
  owned_more none = record {
    free = λ m b q l g. by_order b c
        (λ k. own.free m b q k g)
        (λ k. none m (subst (λ (i : ℕ). LargestOf K (row_of K ev i) m) k g))
        (λ k. omega arith);
    earlier = λ m a h. let k : a < c = own.earlier m a h in omega arith;
    bounds = own.bounds;
    largest = own.largest;
  }

  -- row c has the boundary x with the largest cell m
  module _ {x : List ℕ} (is : Bounds K x (row_of K ev c)) {m : ℕ} (largest : IsLargestIn x m) where
    one : (i : ℕ) → LargestOf K (row_of K ev c) i → i ≡ m
    one i g = largest_unique x i m (of_largest is g) largest

    -- where m is free, no earlier row has the same largest cell
    pub free_alone : owner_of owner m ≡ None → (b i : ℕ) → b < c → LargestOf K (row_of K ev c) i → LargestOf K (row_of K ev b) i → ⊥
    free_alone free b i l g h = own.free m b free l (subst (LargestOf K (row_of K ev b)) (one i g) h)

    -- x is kept at m, and c owns it
    module _ (kept' : List ℕ) (inside : m < length owner) (row : row_of K kept' m ≡ x) (others : (i : ℕ) → (i ≡ m → ⊥) → row_of K kept' i ≡ row_of K kept i) where
      abbrev owner' : ℕ → Option ℕ
      owner' i = owner_of (set owner m (Some c)) i

      here : owner' m ≡ Some c
      here = get_or-set_same owner m (Some c) None inside

      there : (i : ℕ) → (i ≡ m → ⊥) → owner' i ≡ owner_of owner i
      there i apart = get_or-set_other owner m i (Some c) None apart

      -- c is the owner at m
      owns : (a : ℕ) → owner' m ≡ Some a → c ≡ a
      owns a h = let e : ◌≡◌ {A = Option ℕ} (Some c) (Some a) = sym here ∙ h in cc

      pub owned_kept : Owned K ev kept' (set owner m (Some c)) (suc c)
      owned_kept = record {
        free = λ i b. same_or_other (λ i. owner' i ≡ None → b < suc c → LargestOf K (row_of K ev b) i → ⊥) i m
            (λ q. let e : ◌≡◌ {A = Option ℕ} (Some c) None = sym here ∙ q in let z : ◌≡◌ {A = ℕ} 0 1 = cc in absurd (omega arith))
            (λ apart q l g. by_order b c
            (λ k. own.free i b (sym (there i apart) ∙ q) k g)
            (λ k. apart (one i (subst (λ (j : ℕ). LargestOf K (row_of K ev j) i) k g)))
            (λ k. omega arith));
        earlier = λ i a. same_or_other (λ i. owner' i ≡ Some a → a < suc c) i m
            (λ h. omega (arith, owns a h))
            (λ apart h. omega (arith, own.earlier i a (sym (there i apart) ∙ h)));
        bounds = λ i a. same_or_other (λ i. owner' i ≡ Some a → Bounds K (row_of K kept' i) (row_of K ev a)) i m
            (λ h. rw row (subst (λ (b : ℕ). Bounds K x (row_of K ev b)) (owns a h) is))
            (λ apart h. rw (others i apart) (own.bounds i a (sym (there i apart) ∙ h)));
        largest = λ i a. same_or_other (λ i. owner' i ≡ Some a → IsLargestIn (row_of K kept' i) i) i m
            (λ h. rw row largest)
            (λ apart h. rw (others i apart) (own.largest i a (sym (there i apart) ∙ h)));
      }

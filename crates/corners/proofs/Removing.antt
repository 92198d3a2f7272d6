-- Seven words without one of them are the record of the corners without that place.
-- What carries it: each word of the corners and of the padding, by its place. Assumes nothing.
use mathlib.Core.Path.{◌≡◌, sym, ap, ◌∙◌}
use mathlib.Core.Logic.{⊎_elim}
use mathlib.Core.List.{List, ◌++◌}
use Prim.Native.Nat.{ℕ, suc, ◌+◌, ◌-◌, ◌≤◌, ◌<◌}
use native.Mathlib.Omega.{arith}
use lib.ListN.{length, get_or, replicate, length-append, length-replicate, get_or-replicate, get_or-append}
use lib.Seq.{ext_get_or, get_or-append-add}
use Rattle.counting.proofs.Cases.{below_or_not}
use Rattle.table.specs.Kind.{faces, free_mark}
use Rattle.partlist.specs.ListTable.{without}
use Rattle.partlist.proofs.Without.{without_length, without_low, without_up}
use Rattle.corners.specs.Scratch.{padded, Packs, WithoutPlace}

-- a corner by its place, and the padding behind the corners
padded_low : (σ : List ℕ) (k : ℕ) → k < length σ → get_or (padded σ) k 0 ≡ get_or σ k 0
unfolding padded
padded_low σ k h = get_or-append σ (replicate (faces - length σ) free_mark) 0 k h

padded_high : (σ : List ℕ) (k : ℕ) → length σ ≤ k → k < faces → get_or (padded σ) k 0 ≡ free_mark
unfolding padded
padded_high σ k h l =
    let e : k ≡ length σ + (k - length σ) = omega arith in
    ap (λ (i : ℕ). get_or (σ ++ replicate (faces - length σ) free_mark) i 0) e
    ∙ get_or-append-add σ (replicate (faces - length σ) free_mark) (k - length σ) 0
    ∙ get_or-replicate (faces - length σ) (k - length σ) free_mark 0 (omega arith)

padded_length : (σ : List ℕ) → length σ ≤ faces → length (padded σ) ≡ faces
unfolding padded
padded_length σ few =
    omega (arith, length-append σ (replicate (faces - length σ) free_mark), length-replicate {A = ℕ} (faces - length σ) free_mark)

-- the record of a facet
pub facet_packs :
    (p j : ℕ) (ws r σ : List ℕ) → Packs p ws σ → 1 ≤ p → j ≤ p → WithoutPlace j ws r → Packs (p - 1) r (without j σ)
facet_packs p j ws r σ q some place w =
    record {
      count = omega (arith, q.count, shorter);
      few = omega (arith, q.few, shorter);
      words =
          ext_get_or 0 r (padded (without j σ)) (w.long ∙ sym (padded_length (without j σ) (omega (arith, q.few, shorter))))
          (λ k h. at k (omega (arith, h, w.long)));
    }
  where
    shorter : suc (length (without j σ)) ≡ length σ
    shorter = without_length j σ (omega (arith, q.count))

    was : (k : ℕ) → get_or ws k 0 ≡ get_or (padded σ) k 0
    was k = ap (λ (l : List ℕ). get_or l k 0) q.words

    below : (k : ℕ) → k < j → get_or r k 0 ≡ get_or (padded (without j σ)) k 0
    below k h =
        w.low k h ∙ was k ∙ padded_low σ k (omega (arith, q.count)) ∙ sym (without_low j σ k h)
        ∙ sym (padded_low (without j σ) k (omega (arith, q.count, shorter)))

    corner : (k : ℕ) → j ≤ k → suc k < length σ → get_or r k 0 ≡ get_or (padded (without j σ)) k 0
    corner k h l =
        w.up k h (omega (arith, l, q.few)) ∙ was (suc k) ∙ padded_low σ (suc k) l ∙ sym (without_up j σ k h)
        ∙ sym (padded_low (without j σ) k (omega (arith, l, shorter)))

    padding : (k : ℕ) → j ≤ k → length σ ≤ suc k → k < faces → get_or r k 0 ≡ get_or (padded (without j σ)) k 0
    padding k h l m =
        ⊎_elim
        (λ b. w.up k h b ∙ was (suc k) ∙ padded_high σ (suc k) l b)
        (λ b. let e : k ≡ faces - 1 = omega arith in ap (λ (i : ℕ). get_or r i 0) e ∙ w.last)
        (below_or_not (suc k) faces)
        ∙ sym (padded_high (without j σ) k (omega (arith, l, shorter)) m)

    at : (k : ℕ) → k < faces → get_or r k 0 ≡ get_or (padded (without j σ)) k 0
    at k h = ⊎_elim (below k) (λ a. ⊎_elim (corner k a) (λ b. padding k a b h) (below_or_not (suc k) (length σ))) (below_or_not k j)

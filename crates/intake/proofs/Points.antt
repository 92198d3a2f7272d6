-- The points, taken in one after the other. What carries it: cell c is the point c. Assumes nothing.
use mathlib.Core.Path.{◌≡◌, refl, sym, ap, subst, ◌∙◌}
use mathlib.Core.Logic.{◌⊎◌, inl, inr}
use mathlib.Core.List.{List, [], ◌∷◌}
use Prim.Native.Nat.{ℕ, ◌+◌, ◌<◌}
use native.Mathlib.Omega.{arith}
use lib.ListN.{set, replicate}
use Rattle.counting.proofs.Cases.{same_or_not}
use Rattle.table.specs.Kind.{faces, free_mark}
use Rattle.table.specs.Table.{dim, faces_of}
use Rattle.table.specs.Records.{Stored}
use Rattle.table.proofs.Stores.{alike_then}
use Rattle.partlist.specs.ListTable.{corners_at}
use Rattle.partlist.specs.Sweep.{points_from}
use Rattle.partlist.proofs.Gathering.{points_from_sorted, points_from_length, points_from_at}
use Rattle.corners.specs.Scratch.{words_of, padded, Packs, Kept}
use Rattle.corners.proofs.Holding.{packs_alike, same_record, own_words}

point_packs : (c : ℕ) → Packs 0 (set (replicate faces free_mark) 0 c) (c ∷ [])
unfolding padded
point_packs c = record { count = refl; few = omega arith; words = refl }

module _ (n : ℕ) (t u : List ℕ) (c : ℕ) where
  pub points_none : Kept n t [] → Kept n t (points_from 0 0)
  unfolding points_from
  points_none k = k

  pub points_more :
      Kept n t (points_from 0 c) → c < n → Stored c (words_of 0 (set (replicate faces free_mark) 0 c)) t u → Kept n u (points_from 0 (c + 1))
  points_more k h s =
      record {
        size = s.size ∙ k.size;
        room = omega (arith, points_from_length 0 (c + 1));
        holds = record { records = λ d l. at d (omega (arith, l, points_from_length 0 (c + 1))) (same_or_not d c); sorted = points_from_sorted 0 (c + 1) };
        free = λ d a b.
            alike_then (s.else d (λ e. omega (arith, e, a, points_from_length 0 (c + 1))))
            (k.free d (omega (arith, a, points_from_length 0 c, points_from_length 0 (c + 1))) b);
      }
    where
      at : (d : ℕ) → d < c + 1 → (d ≡ c) ⊎ (d ≡ c → ⊥) → Packs (dim u d) (faces_of u d) (corners_at (points_from 0 (c + 1)) d)
      at d l (inl e) =
          subst (λ (x : ℕ). Packs (dim u x) (faces_of u x) (corners_at (points_from 0 (c + 1)) x)) (sym e)
          (packs_alike s.here.same_dim (own_words u c 0 (set (replicate faces free_mark) 0 c) (c ∷ []) (point_packs c) s.here.same_face)
          (points_from_at 0 (c + 1) c (omega arith) ∙ ap (λ (x : ℕ). x ∷ []) (omega arith)) (point_packs c))
      at d l (inr ne) =
          let below : d < c = omega (arith, l, ne) in
          let a = s.else d ne in
          packs_alike a.same_dim (same_record u d t d a) (points_from_at 0 (c + 1) d l ∙ sym (points_from_at 0 c d below))
          (k.holds.records d (omega (arith, below, points_from_length 0 c)))

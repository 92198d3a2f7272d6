-- The cells of a valid table are lawful: what has a mark is a face, and the boundary applied twice gives nothing.
-- What carries it: the sum over the cells between c and u is a sum over the places of c, each of which names one cell; then the
-- pairs of places cancel by the law. Assumes nothing.
use mathlib.Core.Path.{◌≡◌, refl, sym, ap, subst, ◌∙◌}
use mathlib.Core.Bool.{Bool, true, false, ◌&&◌}
use mathlib.Core.List.{List}
use Prim.Native.Nat.{ℕ, zero, suc, ◌<◌}
use native.Mathlib.Omega.{arith}
use borrow.Author.Tests.{eqb-true}
use lib.Dec.{eqb}
use Rattle.counting.proofs.Cases.{and_left, and_right}
use Rattle.homology.specs.Cells.{FaceOf, Lawful, odd}
use Rattle.homology.proofs.Marks.{by_mark}
use Rattle.homology.proofs.Parity.{odd_cong, odd_none, odd_times, odd_swap, odd_member}
use Rattle.table.specs.Kind.{used}
use Rattle.table.specs.Table.{Live, Valid, cells_of, dim, face, live}
use Rattle.complex.specs.View.{View, view_of, odd_face}
use Rattle.complex.specs.Cells.{cells}
use Rattle.complex.proofs.Living.{places, face_level}
use Rattle.table.proofs.Records.{live_says, live_true}
use Rattle.complex.proofs.Pairs.{odd_below, odd_at, pairs_cancel}

-- the marks of a live cell are the parity of its places, and a free number has none
of_live : (v : View) (c u : ℕ) → v.live c ≡ true → odd_face v c u ≡ odd (v.places c) (λ j. eqb (v.face c j) u)
unfolding odd_face
of_live v c u e = rw e

of_free : (v : View) (c u : ℕ) → v.live c ≡ false → odd_face v c u ≡ false
unfolding odd_face
of_free v c u e = rw e

module _ (t : List ℕ) (v : Valid t) where
  face_at_lem : (c u j : ℕ) → Live t c → j < used (dim t c) → face t c j ≡ u → FaceOf (cells t) c u
  face_at_lem c u j a h e =
      let b : Live t u = subst (Live t) e (v.face_live c j a h) in
      record {
        cell_below = a.inside;
        cell_live = live_says t c a;
        face_below = b.inside;
        face_live = live_says t u b;
        one_down = v.face_dim c j a h ∙ ap (λ (s : ℕ). suc (dim t s)) e;
      }

  marked_face : (c u : ℕ) → odd_face (view_of t) c u ≡ true → FaceOf (cells t) c u
  unfolding odd_face
  marked_face c u e =
      let places_of : Bool = odd (used (dim t c)) (λ j. eqb (face t c j) u) in
      let a : Live t c = live_true t c (and_left (live t c) places_of e) in
      let r = odd_member (used (dim t c)) (λ j. eqb (face t c j) u) (and_right (live t c) places_of e) in
      face_at_lem c u r.0 a r.1 (eqb-true (face t c r.0) u r.2)

  -- the sum over the cells between is a sum over the places of c
  by_places : (c u : ℕ) → Live t c → odd (cells_of t) (λ s. odd_face (view_of t) c s && odd_face (view_of t) s u) ≡ odd (used (dim t c)) (λ j. odd_face (view_of t) (face t c j) u)
  by_places c u a =
      odd_cong n _ _ (λ s. ap (λ b. b && odd_face (view_of t) s u) (of_live (view_of t) c s (live_says t c a)) ∙ odd_times m (λ j. eqb (face t c j) s) (odd_face (view_of t) s u))
      ∙ odd_swap n m (λ j s. eqb (face t c j) s && odd_face (view_of t) s u)
      ∙ odd_below m _ _ (λ j h. odd_at n (face t c j) (λ s. odd_face (view_of t) s u) (v.face_live c j a h).inside)
    where
      n : ℕ
      n = cells_of t

      m : ℕ
      m = used (dim t c)

  -- the marks of face j, place by place
  of_face : (c u j p : ℕ) → Live t c → dim t c ≡ suc p → j < used (dim t c) → odd_face (view_of t) (face t c j) u ≡ odd (used p) (λ l. eqb (face t (face t c j) l) u)
  of_face c u j p a e h =
      of_live (view_of t) (face t c j) u (live_says t (face t c j) (v.face_live c j a h))
      ∙ ap (λ (q : ℕ). odd (used q) (λ l. eqb (face t (face t c j) l) u)) (face_level t v c j p a e h)

  -- the places of c, and for each the places of the face there
  by_faces : (c u p : ℕ) → Live t c → dim t c ≡ suc p → odd (used (suc p)) (λ j. odd_face (view_of t) (face t c j) u) ≡ odd (suc (suc p)) (λ j. odd (used p) (λ l. eqb (face t (face t c j) l) u))
  by_faces c u p a e =
      odd_below (used (suc p)) _ _ (λ j h. of_face c u j p a e (subst (λ (q : ℕ). j < used q) (sym e) h))
      ∙ ap (λ (m : ℕ). odd m (λ j. odd (used p) (λ l. eqb (face t (face t c j) l) u))) (places p (omega (arith, a.low)))

  -- a 0-cell has no face, the faces of a 1-cell have none, and from dimension 2 on the pairs cancel
  even_places : (c u p : ℕ) → Live t c → dim t c ≡ p → odd (used p) (λ j. odd_face (view_of t) (face t c j) u) ≡ false
  unfolding odd
  even_places c u zero a e = refl
  even_places c u (suc zero) a e = by_faces c u 0 a e
  even_places c u (suc (suc p)) a e =
      by_faces c u (suc p) a e
      ∙ ap (λ (m : ℕ). odd (suc (suc (suc p))) (λ j. odd m (λ l. eqb (face t (face t c j) l) u))) (places p (omega (arith, a.low)))
      ∙ pairs_cancel (suc (suc p)) (λ j l. eqb (face t (face t c j) l) u)
      (λ j l hl hj. ap (λ (w : ℕ). eqb w u) (v.law c j l a (omega arith) hl (omega arith)))

  even : (c u : ℕ) → odd (cells_of t) (λ s. odd_face (view_of t) c s && odd_face (view_of t) s u) ≡ false
  even c u = by_mark (live t c)
      (λ e. by_places c u (live_true t c e) ∙ even_places c u (dim t c) (live_true t c e) refl)
      (λ e. odd_cong (cells_of t) _ _ (λ s. ap (λ b. b && odd_face (view_of t) s u) (of_free (view_of t) c s e)) ∙ odd_none (cells_of t))

pub valid_is_lawful : (t : List ℕ) → Valid t → Lawful (cells t)
valid_is_lawful t v = record { faces = marked_face t v; twice = even t v }

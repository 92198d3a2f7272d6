-- Laws of corners in a valid table: a point is its own corner; a lower corner is a corner of the last face, the last corner one of
-- face 0. What carries it: a face of a live cell is live, one dimension down. Assumes nothing.
use mathlib.Core.Path.{◌≡◌, refl, ap, sym, subst, ◌∙◌}
use mathlib.Core.List.{List}
use Prim.Native.Nat.{ℕ, zero, suc, ◌-◌, ◌≤◌, ◌<◌}
use native.Mathlib.Omega.{arith}
use borrow.Author.Tests.{lt-ltb, le-ltb}
use Rattle.table.specs.Kind.{used}
use Rattle.table.specs.Table.{dim, face, Live, Valid}
use Rattle.table.proofs.Places.{used_is}
use Rattle.corner.specs.Corner.{corner_at, corner_of}

corner_as : (t : List ℕ) (c k q : ℕ) → dim t c ≡ q → corner_of t c k ≡ corner_at t q c k
unfolding corner_of
corner_as t c k q e = ap (λ (n : ℕ). corner_at t n c k) e

pub corner_of_point : (t : List ℕ) (c k : ℕ) → dim t c ≡ 0 → corner_of t c k ≡ c
unfolding corner_at
corner_of_point t c k e = corner_as t c k 0 e

module _ (t : List ℕ) (v : Valid t) (c p : ℕ) (l : Live t c) (e : dim t c ≡ suc p) where
  -- places 0 to p + 1 are used
  place_used : (j : ℕ) → j ≤ suc p → j < used (dim t c)
  place_used j h = omega (arith, used_is (dim t c) (omega arith) l.low)

  pub face_lives : (j : ℕ) → j ≤ suc p → Live t (face t c j)
  face_lives j h = v.face_live c j l (place_used j h)

  pub face_level : (j : ℕ) → j ≤ suc p → dim t (face t c j) ≡ p
  face_level j h = omega (arith, v.face_dim c j l (place_used j h))

  pub corner_lower : (k : ℕ) → k < suc p → corner_of t c k ≡ corner_of t (face t c (suc p)) k
  unfolding corner_at
  corner_lower k h =
      corner_as t c k (suc p) e
      ∙ rw (lt-ltb k (suc p) h) (sym (corner_as t (face t c (suc p)) k p (face_level (suc p) (omega arith))))

  pub corner_last : (k : ℕ) → k ≡ suc p → corner_of t c k ≡ corner_of t (face t c 0) p
  unfolding corner_at
  corner_last k h =
      corner_as t c k (suc p) e
      ∙ rw (le-ltb k (suc p) (omega arith)) (sym (corner_as t (face t c 0) p p (face_level 0 (omega arith))))

-- The two calls on a face, as the code makes them: p is the cell's dimension, not 0, f the face, and u the table as it is handed on.
-- What the call asks, with the dimension handed on below d, which is the cell's; and what its answer says of the cell's corner.
module _ (t u : List ℕ) (whole : u ≡ t) (c p k f d : ℕ) (v : Valid t) (l : Live t c) (e : p ≡ dim t c) (n : p ≡ 0 → ⊥) (is : p ≡ d) where
  below : dim t c ≡ suc (p - 1)
  below = omega (arith, nonzero p n)
    where
      nonzero : (q : ℕ) → (q ≡ 0 → ⊥) → 1 ≤ q
      nonzero zero h = absurd (h refl)
      nonzero (suc q) h = omega arith

  face_asked : (j i : ℕ) → j ≤ p → i ≤ p - 1 → f ≡ face t c j → (p - 1 < d) × (Valid u × (Live u f × ((p - 1 ≡ dim u f) × (i ≤ p - 1))))
  face_asked j i h g a =
      let m : j ≤ suc (p - 1) = omega (arith, below) in
      subst (λ (x : List ℕ). (p - 1 < d) × (Valid x × (Live x f × ((p - 1 ≡ dim x f) × (i ≤ p - 1))))) (sym whole)
      (omega (arith, below), (v, (rw a (face_lives t v c (p - 1) l below j m), (rw a (sym (face_level t v c (p - 1) l below j m)), g))))

  pub lower_answers : k < p → f ≡ face t c p → (r : ℕ) → r ≡ corner_of u f k → r ≡ corner_of t c k
  lower_answers h i r q =
      let s : p ≡ suc (p - 1) = omega (arith, below) in
      q ∙ ap (λ (x : List ℕ). corner_of x f k) whole ∙ ap (λ (x : ℕ). corner_of t x k) (i ∙ ap (face t c) s)
      ∙ sym (corner_lower t v c (p - 1) l below k (omega (arith, below)))

  pub last_asks : f ≡ face t c 0 → (p - 1 < d) × (Valid u × (Live u f × ((p - 1 ≡ dim u f) × (p - 1 ≤ p - 1))))
  last_asks = face_asked 0 (p - 1) (omega arith) (omega arith)

  pub last_answers : p ≤ k → k ≤ p → f ≡ face t c 0 → (r : ℕ) → r ≡ corner_of u f (p - 1) → r ≡ corner_of t c k
  last_answers g h i r q =
      q ∙ ap (λ (x : List ℕ). corner_of x f (p - 1)) whole ∙ ap (λ (x : ℕ). corner_of t x (p - 1)) i
      ∙ sym (corner_last t v c (p - 1) l below k (omega (arith, below)))

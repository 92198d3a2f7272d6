-- Corners are what the papers call vertices: corner k of face j of a cell is corner k of the cell for k < j, and corner k + 1 for
-- k ≥ j. What carries it: induction on the dimension, with the law of faces. Assumes nothing.
use mathlib.Core.Path.{◌≡◌, refl, ap, ap₂, sym, subst, ◌∙◌}
use mathlib.Core.Logic.{⊎_elim}
use mathlib.Core.Bool.{Bool}
use mathlib.Core.List.{List}
use Prim.Native.Nat.{ℕ, zero, suc, ◌-◌, ◌≤◌, ◌<◌}
use native.Mathlib.Omega.{arith}
use borrow.Author.Tests.{lt-ltb, le-ltb}
use lib.Dec.{ltb}
use Rattle.counting.specs.Counting.{pick}
use Rattle.table.specs.Table.{dim, face, Live, Valid}
use Rattle.counting.proofs.Cases.{below_or_not}
use Rattle.corner.specs.Corner.{corner_of}
use Rattle.corner.proofs.Corners.{face_lives, face_level, corner_lower, corner_last}

-- corner k of face j, as a corner of the cell
Vertex : List ℕ → ℕ → ℕ → ℕ → Type 0
Vertex t c j k = corner_of t (face t c j) k ≡ pick (ltb k j) (corner_of t c k) (corner_of t c (suc k))

module _ (t : List ℕ) (v : Valid t) where
  -- the last face's corners are the cell's own
  at_last_face : (p c k : ℕ) → Live t c → dim t c ≡ suc p → k ≤ p → Vertex t c (suc p) k
  unfolding Vertex
  at_last_face p c k l e h = rw (lt-ltb k (suc p) (omega arith)) (sym (corner_lower t v c p l e k (omega arith)))

  -- of face 0, the last corner is the cell's
  at_first_face : (p c : ℕ) → Live t c → dim t c ≡ suc p → Vertex t c 0 p
  unfolding Vertex
  at_first_face p c l e = rw (le-ltb p 0 (omega arith)) (sym (corner_last t v c p l e (suc p) refl))

  module _ (q c : ℕ) (l : Live t c) (e : dim t c ≡ suc (suc q)) (j : ℕ) (hj : j ≤ suc q) where
    law_at : (i m : ℕ) → m < i → i ≤ suc (suc q) → face t (face t c i) m ≡ face t (face t c m) (i - 1)
    law_at i m h k = v.law c i m l (omega arith) h (omega arith)

    -- a lower corner goes through the last face
    lower : (k : ℕ) → k ≤ q → Vertex t (face t c (suc (suc q))) j k → Vertex t c j k
    unfolding Vertex
    lower k h ih =
        let d = face t c (suc (suc q)) in
        let m : suc q ≡ suc (suc q) - 1 = omega arith in
        let s : face t (face t c j) (suc q) ≡ face t d j = ap (face t (face t c j)) m ∙ sym (law_at (suc (suc q)) j (omega arith) (omega arith)) in
        corner_lower t v (face t c j) q (face_lives t v c (suc q) l e j (omega arith)) (face_level t v c (suc q) l e j (omega arith)) k (omega arith)
        ∙ ap (λ (x : ℕ). corner_of t x k) s
        ∙ ih
        ∙ ap₂ (pick (ltb k j)) (sym (corner_lower t v c (suc q) l e k (omega arith))) (sym (corner_lower t v c (suc q) l e (suc k) (omega arith)))

    -- the last corner of a later face goes through face 0
    last : (i : ℕ) → j ≡ suc i → Vertex t (face t c 0) i q → Vertex t c j (suc q)
    unfolding Vertex
    last i is ih =
        let m : j - 1 ≡ i = omega arith in
        let s : face t (face t c j) 0 ≡ face t (face t c 0) i = law_at j 0 (omega arith) (omega arith) ∙ ap (face t (face t c 0)) m in
        corner_last t v (face t c j) q (face_lives t v c (suc q) l e j (omega arith)) (face_level t v c (suc q) l e j (omega arith)) (suc q) refl
        ∙ ap (λ (x : ℕ). corner_of t x q) s
        ∙ (rw (le-ltb q i (omega arith)) at ih)
        ∙ sym (corner_last t v c (suc q) l e (suc (suc q)) refl)
        ∙ sym (ap (λ (b : Bool). pick b (corner_of t c (suc q)) (corner_of t c (suc (suc q)))) (le-ltb (suc q) j (omega arith)))

  -- one dimension up, from the last face and face 0
  vertex_step : (q c : ℕ) → Live t c → dim t c ≡ suc (suc q) → (j k : ℕ) → j ≤ suc (suc q) → k ≤ suc q → (j ≤ suc q → k ≤ q → Vertex t (face t c (suc (suc q))) j k) → ((i : ℕ) → i ≤ suc q → Vertex t (face t c 0) i q) → Vertex t c j k
  vertex_step q c l e j k hj hk ih₁ ih₂ =
      ⊎_elim
      (λ h.
      ⊎_elim
      (λ g. lower q c l e j (omega arith) k (omega arith) (ih₁ (omega arith) (omega arith)))
      (λ g. last_corner j k (same k g hk) h)
      (below_or_not k (suc q)))
      (λ h. subst (λ (x : ℕ). Vertex t c x k) (is_last j h hj) (at_last_face (suc q) c k l e hk))
      (below_or_not j (suc (suc q)))
    where
      is_last : (i : ℕ) → suc (suc q) ≤ i → i ≤ suc (suc q) → suc (suc q) ≡ i
      is_last i a b = omega arith

      same : (m : ℕ) → suc q ≤ m → m ≤ suc q → m ≡ suc q
      same m a b = omega arith

      last_corner : (i m : ℕ) → m ≡ suc q → i < suc (suc q) → Vertex t c i m
      last_corner zero m z h = subst (λ (x : ℕ). Vertex t c 0 x) (sym z) (at_first_face (suc q) c l e)
      last_corner (suc i) m z h = subst (λ (x : ℕ). Vertex t c (suc i) x) (sym z) (last q c l e (suc i) (omega arith) i refl (ih₂ i (omega arith)))

  vertex : (p c : ℕ) → Live t c → dim t c ≡ suc p → (j k : ℕ) → j ≤ suc p → k ≤ p → Vertex t c j k
  vertex zero c l e zero zero hj hk = at_first_face 0 c l e
  vertex zero c l e (suc zero) zero hj hk = at_last_face 0 c 0 l e hk
  vertex zero c l e (suc (suc j)) zero hj hk = absurd (omega arith)
  vertex zero c l e zero (suc k) hj hk = absurd (omega arith)
  vertex zero c l e (suc zero) (suc k) hj hk = absurd (omega arith)
  vertex zero c l e (suc (suc j)) (suc k) hj hk = absurd (omega arith)
  vertex (suc q) c l e j k hj hk =
      vertex_step q c l e j k hj hk
      (λ h g. vertex q (face t c (suc (suc q))) (face_lives t v c (suc q) l e (suc (suc q)) (omega arith)) (face_level t v c (suc q) l e (suc (suc q)) (omega arith)) j k h g)
      (λ i h. vertex q (face t c 0) (face_lives t v c (suc q) l e 0 (omega arith)) (face_level t v c (suc q) l e 0 (omega arith)) i q h (omega arith))

  -- corner k of face j is corner k of the cell for k < j,
  pub corner_of_face_below : (p c : ℕ) → Live t c → dim t c ≡ suc p → (j k : ℕ) → j ≤ suc p → k ≤ p → k < j → corner_of t (face t c j) k ≡ corner_of t c k
  unfolding Vertex
  corner_of_face_below p c l e j k hj hk h = rw (lt-ltb k j h) at (vertex p c l e j k hj hk)

  -- and corner k + 1 for k ≥ j
  pub corner_of_face_above : (p c : ℕ) → Live t c → dim t c ≡ suc p → (j k : ℕ) → j ≤ suc p → k ≤ p → j ≤ k → corner_of t (face t c j) k ≡ corner_of t c (suc k)
  unfolding Vertex
  corner_of_face_above p c l e j k hj hk h = rw (le-ltb k j h) at (vertex p c l e j k hj hk)

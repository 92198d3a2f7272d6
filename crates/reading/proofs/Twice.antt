-- The boundary of a boundary is 0, over all integers and without any limit on them.
-- What carries it: the sum over the cells between c and u is a sum over the places of c, each of which names one cell; then the
-- pairs of places cancel by the law. Assumes nothing.
use mathlib.Core.Path.{◌≡◌, sym, ap, subst, ◌∙◌, fun_ext}
use mathlib.Core.Bool.{Bool, true, false}
use mathlib.Core.List.{List}
use mathlib.Core.Logic.{⊎_elim}
use Prim.Native.Nat.{ℕ, zero, suc, ◌≤◌, ◌<◌}
use native.Mathlib.Omega.{arith}
use lib.IntN.{ℤ, pos, ◌*ℤ◌, *ℤ-zero, zero-*ℤ}
use lib.Dec.{eqb}
use Rattle.counting.specs.Counting.{pick}
use Rattle.table.specs.Kind.{top, used}
use Rattle.table.specs.Table.{cells_of, dim, face, Valid, is_cell}
use Rattle.counting.proofs.Cases.{true_or_false}
use Rattle.reading.specs.Sums.{sum_to, sign}
use Rattle.reading.specs.Boundary.{boundary_of, one, cell_boundary, published_boundary}
use Rattle.reading.proofs.Integers.{one_times, times_regroup}
use Rattle.reading.proofs.SumLaws.{sum_none, sum_same, sum_zero, times_sum, sum_times, sum_exchange, sum_at}
use Rattle.reading.proofs.Cancelling.{signs_cancel}
use Rattle.reading.proofs.Living.{CellOf, cell_true, cell_is, places, face_cell}
use Rattle.reading.proofs.BoundaryLaws.{pick_times, boundary_is_published}

-- what cell c adds at u as a p-cell: its boundary there, and 0 where it is none
unfoldable adds : List ℕ → ℕ → ℕ → ℕ → ℤ
adds t p c u = pick (is_cell t p c) (cell_boundary t c u) (pos 0)

adds_none : (t : List ℕ) (p c u : ℕ) → is_cell t p c ≡ false → adds t p c u ≡ pos 0
unfolding adds
adds_none t p c u e = rw e

adds_bound : (t : List ℕ) (p c u : ℕ) → CellOf t p c → adds t p c u ≡ sum_to (used p) (λ i. sign i *ℤ one (face t c i) u)
unfolding adds cell_boundary
adds_bound t p c u h = rw (cell_is t p c h, h.level)

published_is : (t : List ℕ) (p : ℕ) (x : ℕ → ℤ) (u : ℕ) → published_boundary t p x u ≡ sum_to (cells_of t) (λ c. x c *ℤ adds t p c u)
unfolding published_boundary adds
published_is t p x u =
    sum_same (cells_of t) (λ c. pick (is_cell t p c) (x c *ℤ cell_boundary t c u) (pos 0))
    (λ c. x c *ℤ pick (is_cell t p c) (cell_boundary t c u) (pos 0))
    (λ c l. pick_times (is_cell t p c) (x c) (cell_boundary t c u))

-- a product of sums, gathered by the first chain
gathered : (n : ℕ) (x : ℕ → ℤ) (f : ℕ → ℕ → ℤ) (g : ℕ → ℤ) → sum_to n (λ s. sum_to n (λ c. x c *ℤ f c s) *ℤ g s) ≡ sum_to n (λ c. x c *ℤ sum_to n (λ s. f c s *ℤ g s))
gathered n x f g =
    sum_same n (λ s. sum_to n (λ c. x c *ℤ f c s) *ℤ g s) (λ s. sum_to n (λ c. (x c *ℤ f c s) *ℤ g s))
    (λ s l. sum_times n (λ c. x c *ℤ f c s) (g s))
    ∙ sum_exchange n n (λ s c. (x c *ℤ f c s) *ℤ g s)
    ∙ sum_same n (λ c. sum_to n (λ s. (x c *ℤ f c s) *ℤ g s)) (λ c. x c *ℤ sum_to n (λ s. f c s *ℤ g s))
    (λ c l.
    sum_same n (λ s. (x c *ℤ f c s) *ℤ g s) (λ s. x c *ℤ (f c s *ℤ g s)) (λ s k. times_regroup (x c) (f c s) (g s))
    ∙ sym (times_sum n (x c) (λ s. f c s *ℤ g s)))

one_chooses : (f s : ℕ) (z : ℤ) → one f s *ℤ z ≡ pick (eqb f s) z (pos 0)
unfolding one
one_chooses f s z = chosen (eqb f s) z
  where
    chosen : (b : Bool) (z : ℤ) → pick b (pos 1) (pos 0) *ℤ z ≡ pick b z (pos 0)
    chosen true z = one_times z
    chosen false z = zero-*ℤ z

-- a sum over the cells of the boundary of m places is a sum over the places
by_places : (n m : ℕ) (f : ℕ → ℕ) (g : ℕ → ℤ) → ((j : ℕ) → j < m → f j < n) → sum_to n (λ s. sum_to m (λ j. sign j *ℤ one (f j) s) *ℤ g s) ≡ sum_to m (λ j. sign j *ℤ g (f j))
by_places n m f g inside =
    sum_same n (λ s. sum_to m (λ j. sign j *ℤ one (f j) s) *ℤ g s) (λ s. sum_to m (λ j. (sign j *ℤ one (f j) s) *ℤ g s))
    (λ s l. sum_times m (λ j. sign j *ℤ one (f j) s) (g s))
    ∙ sum_exchange n m (λ s j. (sign j *ℤ one (f j) s) *ℤ g s)
    ∙ sum_same m (λ j. sum_to n (λ s. (sign j *ℤ one (f j) s) *ℤ g s)) (λ j. sign j *ℤ g (f j))
    (λ j l.
    sum_same n (λ s. (sign j *ℤ one (f j) s) *ℤ g s) (λ s. sign j *ℤ pick (eqb (f j) s) (g s) (pos 0))
    (λ s k. times_regroup (sign j) (one (f j) s) (g s) ∙ ap (λ (z : ℤ). sign j *ℤ z) (one_chooses (f j) s (g s)))
    ∙ sym (times_sum n (sign j) (λ s. pick (eqb (f j) s) (g s) (pos 0)))
    ∙ ap (λ (z : ℤ). sign j *ℤ z) (sum_at n (f j) g (inside j l)))

module _ (t : List ℕ) (v : Valid t) where
  -- the places of c, and for each the places of the face there
  faces_of_faces : (p c u : ℕ) → CellOf t (suc p) c → sum_to (cells_of t) (λ s. adds t (suc p) c s *ℤ adds t p s u) ≡ sum_to (used (suc p)) (λ j. sum_to (used p) (λ l. sign j *ℤ (sign l *ℤ one (face t (face t c j) l) u)))
  faces_of_faces p c u h =
      let places-are : used (suc p) ≡ used (dim t c) = ap used (sym h.level) in
      sum_same (cells_of t) (λ s. adds t (suc p) c s *ℤ adds t p s u)
      (λ s. sum_to (used (suc p)) (λ j. sign j *ℤ one (face t c j) s) *ℤ adds t p s u)
      (λ s l. ap (λ (z : ℤ). z *ℤ adds t p s u) (adds_bound t (suc p) c s h))
      ∙ by_places (cells_of t) (used (suc p)) (face t c) (λ s. adds t p s u)
      (λ j l. (face_cell t v p c j h (subst (λ (m : ℕ). j < m) places-are l)).alive.inside)
      ∙ sum_same (used (suc p)) (λ j. sign j *ℤ adds t p (face t c j) u)
      (λ j. sum_to (used p) (λ l. sign j *ℤ (sign l *ℤ one (face t (face t c j) l) u)))
      (λ j l.
      ap (λ (z : ℤ). sign j *ℤ z) (adds_bound t p (face t c j) u (face_cell t v p c j h (subst (λ (m : ℕ). j < m) places-are l)))
      ∙ times_sum (used p) (sign j) (λ i. sign i *ℤ one (face t (face t c j) i) u))

  -- the faces of an edge have none, and from dimension 2 on the pairs cancel
  square_is_zero : (p c u : ℕ) → CellOf t (suc p) c → sum_to (used (suc p)) (λ j. sum_to (used p) (λ l. sign j *ℤ (sign l *ℤ one (face t (face t c j) l) u))) ≡ pos 0
  square_is_zero zero c u h =
      sum_zero (used 1) (λ j. sum_to (used 0) (λ l. sign j *ℤ (sign l *ℤ one (face t (face t c j) l) u)))
      (λ j l. sum_none (λ i. sign j *ℤ (sign i *ℤ one (face t (face t c j) i) u)))
  square_is_zero (suc p) c u h =
      let low : suc (suc p) ≤ top = omega (arith, h.alive.low, h.level) in
      let two : 2 ≤ dim t c = omega (arith, h.level) in
      ap (λ (m : ℕ). sum_to m (λ j. sum_to (used (suc p)) (λ l. sign j *ℤ (sign l *ℤ one (face t (face t c j) l) u)))) (places (suc p) low)
      ∙ ap (λ (m : ℕ). sum_to (suc (suc (suc p))) (λ j. sum_to m (λ l. sign j *ℤ (sign l *ℤ one (face t (face t c j) l) u)))) (places p (omega arith))
      ∙ signs_cancel (suc (suc p)) (λ j l. one (face t (face t c j) l) u)
      (λ j l hl hj. ap (λ (w : ℕ). one w u) (v.law c j l h.alive two hl (omega (arith, h.level))))

  one_cell : (p c u : ℕ) → sum_to (cells_of t) (λ s. adds t (suc p) c s *ℤ adds t p s u) ≡ pos 0
  one_cell p c u =
      ⊎_elim
      (λ e. let h = cell_true t (suc p) c e in faces_of_faces p c u h ∙ square_is_zero p c u h)
      (λ e.
      sum_zero (cells_of t) (λ s. adds t (suc p) c s *ℤ adds t p s u)
      (λ s l. ap (λ (z : ℤ). z *ℤ adds t p s u) (adds_none t (suc p) c s e) ∙ zero-*ℤ (adds t p s u)))
      (true_or_false (is_cell t (suc p) c))

  published_twice : (p : ℕ) (x : ℕ → ℤ) (u : ℕ) → published_boundary t p (published_boundary t (suc p) x) u ≡ pos 0
  published_twice p x u =
      published_is t p (published_boundary t (suc p) x) u
      ∙ sum_same (cells_of t) (λ s. published_boundary t (suc p) x s *ℤ adds t p s u)
      (λ s. sum_to (cells_of t) (λ c. x c *ℤ adds t (suc p) c s) *ℤ adds t p s u)
      (λ s l. ap (λ (z : ℤ). z *ℤ adds t p s u) (published_is t (suc p) x s))
      ∙ gathered (cells_of t) x (adds t (suc p)) (λ s. adds t p s u)
      ∙ sum_zero (cells_of t) (λ c. x c *ℤ sum_to (cells_of t) (λ s. adds t (suc p) c s *ℤ adds t p s u))
      (λ c l. ap (λ (z : ℤ). x c *ℤ z) (one_cell p c u) ∙ *ℤ-zero (x c))

  -- The boundary of a boundary is 0, for any chain of any integers.
  pub boundary_of_boundary : (p : ℕ) (x : ℕ → ℤ) (u : ℕ) → boundary_of t p (boundary_of t (suc p) x) u ≡ pos 0
  boundary_of_boundary p x u =
      boundary_is_published t v p (boundary_of t (suc p) x) u
      ∙ ap (λ (y : ℕ → ℤ). published_boundary t p y u) (fun_ext (boundary_is_published t v (suc p) x))
      ∙ published_twice p x u

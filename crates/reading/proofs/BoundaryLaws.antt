-- The boundary is the published one.
-- What carries it: at a number that is no (p−1)-cell the published sum has no summand, since every face of a p-cell is a
-- (p−1)-cell. Assumes nothing.
use mathlib.Core.Path.{◌≡◌, refl, sym, ap, ◌∙◌}
use mathlib.Core.Bool.{Bool, true, false, false≢true}
use mathlib.Core.List.{List}
use mathlib.Core.Logic.{⊎_elim}
use Prim.Native.Nat.{ℕ, zero, suc}
use borrow.Author.Tests.{ne_eqb}
use lib.IntN.{ℤ, pos, ◌*ℤ◌, *ℤ-zero, *ℤ_comm}
use lib.Dec.{eqb}
use Rattle.counting.specs.Counting.{pick}
use Rattle.table.specs.Kind.{used}
use Rattle.table.specs.Table.{cells_of, dim, face, Valid, is_cell}
use Rattle.counting.proofs.Cases.{true_or_false, same_or_not}
use Rattle.reading.specs.Sums.{sum_to, sign}
use Rattle.reading.specs.Incidence.{incidence_of}
use Rattle.reading.specs.Boundary.{boundary_of, one, cell_boundary, published_boundary}
use Rattle.reading.proofs.Integers.{one_times}
use Rattle.reading.proofs.SumLaws.{sum_none, sum_same, sum_zero}
use Rattle.reading.proofs.Living.{CellOf, cell_true, cell_is, face_cell}

pub pick_times : (b : Bool) (a z : ℤ) → pick b (a *ℤ z) (pos 0) ≡ a *ℤ pick b z (pos 0)
pick_times true a z = refl
pick_times false a z = sym (*ℤ-zero a)

pub pick_zero : (b : Bool) (z : ℤ) → (b ≡ true → z ≡ pos 0) → pick b z (pos 0) ≡ pos 0
pick_zero true z h = h refl
pick_zero false z h = refl

times_chosen : (b : Bool) (a : ℤ) → pick b a (pos 0) ≡ a *ℤ pick b (pos 1) (pos 0)
times_chosen true a = sym (*ℤ_comm a (pos 1) ∙ one_times a)
times_chosen false a = sym (*ℤ-zero a)

-- a place adds its sign at the face that stands there
pub sign_at : (j f u : ℕ) → pick (eqb f u) (sign j) (pos 0) ≡ sign j *ℤ one f u
unfolding one
sign_at j f u = times_chosen (eqb f u) (sign j)

-- the boundary of a cell alone is its incidences
pub incidence_is_lem : (t : List ℕ) (s u : ℕ) → incidence_of t s u ≡ cell_boundary t s u
unfolding incidence_of cell_boundary
incidence_is_lem t s u =
    sum_same (used (dim t s)) (λ j. pick (eqb (face t s j) u) (sign j) (pos 0)) (λ j. sign j *ℤ one (face t s j) u)
    (λ j l. sign_at j (face t s j) u)

one_elsewhere : (f u : ℕ) → (f ≡ u → ⊥) → one f u ≡ pos 0
unfolding one
one_elsewhere f u h = rw (ne_eqb f u h)

-- a point has no boundary
point_bounds : (t : List ℕ) (c u : ℕ) → dim t c ≡ 0 → cell_boundary t c u ≡ pos 0
unfolding cell_boundary
point_bounds t c u e =
    ap (λ (p : ℕ). sum_to (used p) (λ i. sign i *ℤ one (face t c i) u)) e
    ∙ sum_none (λ i. sign i *ℤ one (face t c i) u)

module _ (t : List ℕ) (v : Valid t) where
  -- at a number that is no cell one dimension down a cell's boundary is 0
  bounds_cells : (p c u : ℕ) → CellOf t (suc p) c → is_cell t p u ≡ false → cell_boundary t c u ≡ pos 0
  unfolding cell_boundary
  bounds_cells p c u h e =
      sum_zero (used (dim t c)) (λ i. sign i *ℤ one (face t c i) u) (λ i l.
      ⊎_elim
      (λ q. absurd (false≢true (sym e ∙ ap (is_cell t p) (sym q) ∙ cell_is t p (face t c i) (face_cell t v p c i h l))))
      (λ q. ap (λ (z : ℤ). sign i *ℤ z) (one_elsewhere (face t c i) u q) ∙ *ℤ-zero (sign i))
      (same_or_not (face t c i) u))

  -- where no p-cell has a boundary at u, no p-chain has
  published_zero : (p : ℕ) (x : ℕ → ℤ) (u : ℕ) → ((c : ℕ) → CellOf t p c → cell_boundary t c u ≡ pos 0) → published_boundary t p x u ≡ pos 0
  unfolding published_boundary
  published_zero p x u h =
      sum_zero (cells_of t) (λ c. pick (is_cell t p c) (x c *ℤ cell_boundary t c u) (pos 0))
      (λ c l. pick_zero (is_cell t p c) (x c *ℤ cell_boundary t c u) (λ e. ap (λ (z : ℤ). x c *ℤ z) (h c (cell_true t p c e)) ∙ *ℤ-zero (x c)))

  -- The boundary that a call computes is the published one, at every number.
  pub boundary_is_published : (p : ℕ) (x : ℕ → ℤ) (u : ℕ) → boundary_of t p x u ≡ published_boundary t p x u
  unfolding boundary_of published_boundary
  boundary_is_published zero x u = sym (published_zero 0 x u (λ c k. point_bounds t c u k.level))
  boundary_is_published (suc p) x u =
      ⊎_elim
      (λ e.
      rw e
      (sum_same (cells_of t) (λ c. pick (is_cell t (suc p) c) (x c *ℤ incidence_of t c u) (pos 0))
      (λ c. pick (is_cell t (suc p) c) (x c *ℤ cell_boundary t c u) (pos 0))
      (λ c l. ap (λ (z : ℤ). pick (is_cell t (suc p) c) (x c *ℤ z) (pos 0)) (incidence_is_lem t c u))))
      (λ e. rw e (sym (published_zero (suc p) x u (λ c k. bounds_cells p c u k e))))
      (true_or_false (is_cell t p u))

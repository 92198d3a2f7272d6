-- A chain is added cell by cell: what stands in the result after each cell, and how large it can be.
-- What carries it: a cell adds its coefficient at each of its places, as the published boundary does; a coefficient 0 adds nothing.
-- Assumes nothing.
use mathlib.Core.Path.{◌≡◌, refl, sym, ap, subst, ◌∙◌}
use mathlib.Core.Bool.{Bool, true, false}
use mathlib.Core.List.{List}
use Prim.Native.Nat.{ℕ, ◌+◌, ◌*◌, ◌^◌, ◌%◌, ◌≤◌, ◌<◌}
use native.Mathlib.Nat.{mul-le-mul}
use native.Mathlib.Omega.{arith}
use lib.IntN.{ℤ, pos, negsuc, neg_ℤ, nat_abs, ◌+ℤ◌, ◌*ℤ◌, +ℤ_idr, zero-*ℤ, *ℤ_comm}
use lib.Dec.{eqb}
use Rattle.counting.specs.Counting.{pick}
use Rattle.table.specs.Kind.{capacity, faces, used}
use Rattle.table.specs.Table.{cells_of, dim, face, is_cell}
use Rattle.table.proofs.Places.{used_fits}
use Rattle.reading.specs.Sums.{sum_to, sign}
use Rattle.reading.specs.Boundary.{cell_boundary, published_boundary, one, limit, turned, place_adds, reached}
use Rattle.reading.proofs.Integers.{one_times, minus_one_times}
use Rattle.reading.proofs.SumLaws.{sum_none, sum_next, sum_same, times_sum}
use Rattle.reading.proofs.Sizes.{size_add, size_sum}
use Rattle.reading.proofs.Living.{cell_true}
use Rattle.reading.proofs.BoundaryLaws.{pick_times, pick_zero, sign_at}
use Rattle.reading.proofs.Adding.{size_places}

turned_by : (b : Bool) (z : ℤ) → z *ℤ pick b (pos 1) (negsuc 0) ≡ pick b z (neg_ℤ z)
turned_by true z = *ℤ_comm z (pos 1) ∙ one_times z
turned_by false z = *ℤ_comm z (negsuc 0) ∙ minus_one_times z

times_sign : (j : ℕ) (z : ℤ) → z *ℤ sign j ≡ turned j z
unfolding sign turned
times_sign j z = turned_by (eqb (j % 2) 0) z

-- a place adds the coefficient, with its sign, at the face that stands there
place_is : (t : List ℕ) (c : ℕ) (z : ℤ) (u j : ℕ) → z *ℤ (sign j *ℤ one (face t c j) u) ≡ place_adds t c z u j
unfolding place_adds
place_is t c z u j =
    ap (λ (w : ℤ). z *ℤ w) (sym (sign_at j (face t c j) u))
    ∙ sym (pick_times (eqb (face t c j) u) z (sign j))
    ∙ ap (λ (w : ℤ). pick (eqb (face t c j) u) w (pos 0)) (times_sign j z)

-- a coefficient times the boundary of its cell, place by place
cell_adds : (t : List ℕ) (c : ℕ) (z : ℤ) (u : ℕ) → z *ℤ cell_boundary t c u ≡ sum_to (used (dim t c)) (place_adds t c z u)
unfolding cell_boundary
cell_adds t c z u =
    times_sum (used (dim t c)) z (λ i. sign i *ℤ one (face t c i) u)
    ∙ sum_same (used (dim t c)) (λ i. z *ℤ (sign i *ℤ one (face t c i) u)) (place_adds t c z u) (λ i l. place_is t c z u i)

module _ (t : List ℕ) (p : ℕ) (x : ℕ → ℤ) where
  pub reached_none : (u : ℕ) → reached t p x 0 u ≡ pos 0
  unfolding reached
  reached_none u = sum_none (λ c. pick (is_cell t p c) (x c *ℤ cell_boundary t c u) (pos 0))

  reached_next : (c u : ℕ) → reached t p x (c + 1) u ≡ reached t p x c u +ℤ pick (is_cell t p c) (x c *ℤ cell_boundary t c u) (pos 0)
  unfolding reached
  reached_next c u = sum_next c (λ s. pick (is_cell t p s) (x s *ℤ cell_boundary t s u) (pos 0))

  pub reached_all : (u : ℕ) → reached t p x (cells_of t) u ≡ published_boundary t p x u
  unfolding reached published_boundary
  reached_all u = refl

  -- a coefficient 0 changes nothing
  pub reached_past : (c u : ℕ) → x c ≡ pos 0 → reached t p x (c + 1) u ≡ reached t p x c u
  reached_past c u e =
      reached_next c u
      ∙ ap (λ (w : ℤ). reached t p x c u +ℤ w) (pick_zero (is_cell t p c) (x c *ℤ cell_boundary t c u) (λ q. ap (λ (z : ℤ). z *ℤ cell_boundary t c u) e ∙ zero-*ℤ (cell_boundary t c u)))
      ∙ +ℤ_idr (reached t p x c u)

  pub reached_cell : (c u : ℕ) → is_cell t p c ≡ true → reached t p x (c + 1) u ≡ reached t p x c u +ℤ sum_to (used p) (place_adds t c (x c) u)
  reached_cell c u e =
      reached_next c u
      ∙ ap (λ (b : Bool). reached t p x c u +ℤ pick b (x c *ℤ cell_boundary t c u) (pos 0)) e
      ∙ ap (λ (w : ℤ). reached t p x c u +ℤ w) (cell_adds t c (x c) u)
      ∙ ap (λ (q : ℕ). reached t p x c u +ℤ sum_to (used q) (place_adds t c (x c) u)) (cell_true t p c e).level

  -- how large a sum can be: for each cell seven coefficients
  module _ (small : (c : ℕ) → c < cells_of t → nat_abs (x c) ≤ limit) where
    size_of_places : (c u m : ℕ) → c < cells_of t → m ≤ faces → nat_abs (sum_to m (place_adds t c (x c) u)) ≤ faces * limit
    size_of_places c u m l h =
        let few : m * nat_abs (x c) ≤ faces * limit = mul-le-mul {n₁ = m} {m₁ = nat_abs (x c)} {n₂ = faces} {m₂ = limit} h (small c l) in
        omega (arith, size_places t c (x c) u m)

    size_of_cell : (c u : ℕ) → c < cells_of t → (b : Bool) → nat_abs (pick b (x c *ℤ cell_boundary t c u) (pos 0)) ≤ faces * limit
    size_of_cell c u l true =
        subst (λ (w : ℤ). nat_abs w ≤ faces * limit) (sym (cell_adds t c (x c) u))
        (size_of_places c u (used (dim t c)) l (used_fits (dim t c)))
    size_of_cell c u l false = omega arith

    pub size_reached : (n u : ℕ) → n ≤ cells_of t → nat_abs (reached t p x n u) ≤ n * (faces * limit)
    unfolding reached
    size_reached n u h =
        size_sum n (faces * limit) (λ c. pick (is_cell t p c) (x c *ℤ cell_boundary t c u) (pos 0))
        (λ c l. size_of_cell c u (omega arith) (is_cell t p c))

-- Every partial sum of a boundary, after any number of cells and any number of places within the next, is at most 2^52.
pub no_sum_passes : (t : List ℕ) (p : ℕ) (x : ℕ → ℤ) → cells_of t ≤ capacity → ((c : ℕ) → c < cells_of t → nat_abs (x c) ≤ limit) → (c m u : ℕ) → c < cells_of t → m ≤ faces → nat_abs (reached t p x c u +ℤ sum_to m (place_adds t c (x c) u)) ≤ 2 ^ 52
no_sum_passes t p x room small c m u l h =
    omega (arith, size_add (reached t p x c u) (sum_to m (place_adds t c (x c) u)), size_reached t p x small c u (omega arith), size_of_places t p x small c u m l h)

-- The theorem on hole counts: where the evidence meets rules A and B, n_p − r_p − r_(p+1) is the hole number in dimension p.
-- What carries it: the hole cells are as many (HoleCells), their rows are independent (Witness), and no list is longer
-- (Elimination). Assumes nothing.
use mathlib.Core.Path.{◌≡◌, subst}
use mathlib.Core.Bool.{true, ◌&&◌}
use Prim.Native.Nat.{ℕ, suc, ◌+◌, ◌≤◌, ◌<◌}
use native.Mathlib.Omega.{arith}
use Rattle.counting.proofs.Cases.{and_left, and_right, not_true_false}
use Rattle.counting.specs.Counting.{how_many}
use Rattle.counting.proofs.Counting.{how_many_none, some_has_none}
use Rattle.homology.specs.Cells.{Cells, Lawful}
use Rattle.homology.specs.Holes.{IsHoleNumber, boundary}
use Rattle.homology.specs.Evidence.{Rows, Meets, cells_in, bounding_in, holes_in}
use Rattle.homology.proofs.Marks.{clash}
use Rattle.homology.proofs.Chains.{point_boundary}
use Rattle.homology.proofs.ChainKinds.{is_cell, cell_live, cell_level, row_chain}
use Rattle.homology.proofs.HoleCells.{is_bounding, is_hole, cells_add_up}
use Rattle.homology.proofs.Witness.{hole_rows}
use Rattle.homology.proofs.Elimination.{no_more_holes}

-- r_p + r_(p+1) ≤ n_p, so that nothing is lost in the differences
pub bounding_cells_fit : (K : Cells) → Lawful K → (rows : Rows) → Meets K rows → (p : ℕ) → bounding_in K rows p + bounding_in K rows (suc p) ≤ cells_in K p
bounding_cells_fit K law rows meets p = omega (arith, cells_add_up K law rows meets p)

holes_count : (K : Cells) → Lawful K → (rows : Rows) → Meets K rows → (p : ℕ) → how_many (is_hole K rows p) K.size ≡ holes_in K rows p
unfolding holes_in
holes_count K law rows meets p = omega (arith, cells_add_up K law rows meets p)

pub holes_are_hole_numbers : (K : Cells) → Lawful K → (rows : Rows) → Meets K rows → (p : ℕ) → IsHoleNumber K p (holes_in K rows p)
holes_are_hole_numbers K law rows meets p = subst (IsHoleNumber K p) (holes_count K law rows meets p)
    (let r = hole_rows K law rows meets p in
    record { witness = r.0; independent = r.2; reached = omega (arith, r.1); greatest = no_more_holes K law rows meets p })

-- points have no boundary: r_0 = 0
pub no_bounding_points : (K : Cells) → Lawful K → (rows : Rows) → Meets K rows → bounding_in K rows 0 ≡ 0
unfolding bounding_in
no_bounding_points K law rows meets = how_many_none (λ c. is_cell K 0 c && is_bounding K rows c) K.size
    (λ c l. not_true_false (is_cell K 0 c && is_bounding K rows c) (λ e. clash
    (and_right (is_cell K 0 c) (is_bounding K rows c) e)
    (some_has_none (boundary K (rows c)) K.size (λ t h. point_boundary K law (rows c) (row_chain K rows meets 0 c l (and_left (is_cell K 0 c) (is_bounding K rows c) e)) t))))

-- where there are no p-cells none of their rows bounds: r_p = 0 above the highest dimension
pub no_bounding_above : (K : Cells) → Lawful K → (rows : Rows) → (p : ℕ)
    → ((c : ℕ) → c < K.size → K.live c ≡ true → K.dim c ≡ p → ⊥) → bounding_in K rows p ≡ 0
unfolding bounding_in
no_bounding_above K law rows p h = how_many_none (λ c. is_cell K p c && is_bounding K rows c) K.size
    (λ c l. not_true_false (is_cell K p c && is_bounding K rows c) (λ e.
    let cell = and_left (is_cell K p c) (is_bounding K rows c) e in
    h c l (cell_live K p c cell) (cell_level K p c cell)))

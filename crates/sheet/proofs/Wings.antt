-- At how many places of n-cells a cell is named: the count goes cell by cell, and over an (n−1)-cell it is that of all cells.
-- What carries it: in a valid table a cell over u lies one dimension above u. Assumes nothing.
use mathlib.Core.Path.{◌≡◌, refl, sym, ◌∙◌}
use mathlib.Core.Bool.{Bool, true, false}
use mathlib.Core.List.{List}
use mathlib.Core.Logic.{⊎_elim}
use Prim.Native.Nat.{ℕ, suc, ◌≤◌, ◌<◌}
use native.Mathlib.Omega.{arith}
use lib.Dec.{eqb}
use Rattle.counting.specs.Counting.{pick}
use Rattle.counting.proofs.Cases.{true_or_false}
use Rattle.counting.proofs.Counting.{how_many_strict, how_many_none, some_has_each, some_has_one}
use Rattle.table.specs.Kind.{used}
use Rattle.table.specs.Table.{cells_of, dim, face, is_cell, Valid}
use Rattle.table.proofs.Dimensions.{cell_says}
use Rattle.sheet.specs.Sheet.{has_face, places, wings, covered}
use Rattle.sheet.specs.Sides.{sides_below}
use Rattle.sheet.proofs.Over.{side_live, side_dim, over_by, over_has, covered_over, over_covered}
use Rattle.counting.proofs.Totals.{total_cong, total_at, total_some}

module _ (t : List ℕ) where
  -- a cell names u at some place exactly where it has u as a face
  pub face_placed : (c u : ℕ) → has_face t c u ≡ true → 1 ≤ places t c u
  unfolding has_face places
  face_placed c u e =
      let w = some_has_one (λ j. eqb (face t c j) u) (used (dim t c)) e in
      omega (arith, how_many_strict (λ j. eqb (face t c j) u) w.0 (used (dim t c)) w.1 w.2)

  pub no_face_no_place : (c u : ℕ) → has_face t c u ≡ false → places t c u ≡ 0
  unfolding has_face places
  no_face_no_place c u e =
      how_many_none (λ j. eqb (face t c j) u) (used (dim t c)) (some_has_each (λ j. eqb (face t c j) u) (used (dim t c)) e)

  placed_face : (c u : ℕ) → 1 ≤ places t c u → has_face t c u ≡ true
  placed_face c u h =
      ⊎_elim (λ e. e) (λ e. absurd (omega (arith, no_face_no_place c u e))) (true_or_false (has_face t c u))

  -- every cell over an (n−1)-cell is an n-cell
  wing_is_side : Valid t → (n u c : ℕ) → c < cells_of t → n ≡ suc (dim t u) → pick (is_cell t n c) (places t c u) 0 ≡ places t c u
  wing_is_side v n u c h e =
      ⊎_elim
      (λ i. rw (cell_says t n c (side_live t c u h i) (side_dim t v c u h i ∙ sym e)))
      (λ i. rw (no_face_no_place c u i) (none (is_cell t n c)))
      (true_or_false (has_face t c u))
    where
      none : (b : Bool) → pick {A = ℕ} b 0 0 ≡ 0
      none true = refl
      none false = refl

  pub wings_are_sides : Valid t → (n u : ℕ) → n ≡ suc (dim t u) → wings t n u ≡ sides_below t u (cells_of t)
  unfolding wings sides_below
  wings_are_sides v n u e =
      total_cong (λ c. pick (is_cell t n c) (places t c u) 0) (λ c. places t c u) (cells_of t) (λ c h. wing_is_side v n u c h e)

  -- a cell has sides exactly where it is covered
  pub covered_sides : (u : ℕ) → covered t u ≡ true → 1 ≤ sides_below t u (cells_of t)
  unfolding sides_below
  covered_sides u e =
      let o = covered_over t u e in
      omega (arith, face_placed o.cell u (over_has t u o), total_at (λ c. places t c u) (cells_of t) o.cell o.living.inside)

  pub sides_covered : (u : ℕ) → 1 ≤ sides_below t u (cells_of t) → covered t u ≡ true
  unfolding sides_below
  sides_covered u h =
      let w = total_some (λ c. places t c u) (cells_of t) h in
      over_covered t u (over_by t w.0 u w.1 (placed_face w.0 u w.2))

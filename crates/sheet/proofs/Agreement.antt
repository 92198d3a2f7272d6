-- The test of today against the one before it: what passes now passed then, and where no n-cell repeats a face the two agree.
-- What carries it: a cell that has u as a face names it at one place or more, and at one alone where it repeats none.
-- Assumes nothing.
use mathlib.Core.Path.{◌≡◌, refl, sym, ◌∙◌}
use mathlib.Core.Bool.{Bool, true, false, ◌&&◌}
use mathlib.Core.List.{List}
use mathlib.Core.Logic.{◌↔◌, ⊎_elim}
use Prim.Native.Nat.{ℕ, ◌≤◌, ◌<◌}
use native.Mathlib.Omega.{arith}
use borrow.Author.Tests.{eqb-true}
use lib.Dec.{eqb}
use Rattle.counting.specs.Counting.{how_many, nth, pick, total}
use Rattle.counting.proofs.Cases.{below_or_not}
use Rattle.counting.proofs.Counting.{nth_below, nth_has, nth_rising}
use Rattle.table.specs.Kind.{used}
use Rattle.table.specs.Table.{cells_of, dim, face, is_cell}
use Rattle.table.proofs.Dimensions.{cell_live, cell_dim}
use Rattle.sheet.specs.Sheet.{has_face, places, wings, SheetBy, IsSheet}
use Rattle.sheet.specs.OldSheet.{old_wings, IsOldSheet, NoRepeats}
use Rattle.counting.proofs.Totals.{total_cong, total_less, count_is_total}
use Rattle.sheet.proofs.Wings.{face_placed, no_face_no_place}

-- a property that no two numbers below n share is counted once at most
once : (f : ℕ → Bool) (n : ℕ) → ((j l : ℕ) → j < n → l < n → (j ≡ l → ⊥) → f j ≡ true → f l ≡ true → ⊥) → how_many f n ≤ 1
once f n h =
    ⊎_elim
    (λ l.
    absurd
    (h (nth f n 0) (nth f n 1) (nth_below f n 0 (omega arith)) (nth_below f n 1 l) (λ e. omega (arith, nth_rising f n 0 1 (omega arith) l))
    (nth_has f n 0 (omega arith)) (nth_has f n 1 l)))
    (λ l. l)
    (below_or_not 1 (how_many f n))

-- one cell's part in the two counts: whether it is an n-cell, whether it has u as a face, and at how many places
no_fewer : (a b : Bool) (m : ℕ) → (b ≡ true → 1 ≤ m) → pick (a && b) 1 0 ≤ pick a m 0
no_fewer true true m h = h refl
no_fewer true false m h = omega arith
no_fewer false b m h = omega arith

as_many : (a b : Bool) (m : ℕ) → (b ≡ true → 1 ≤ m) → (b ≡ false → m ≡ 0) → (a ≡ true → m ≤ 1) → pick (a && b) 1 0 ≡ pick a m 0
as_many true true m h g i = omega (arith, h refl, i refl)
as_many true false m h g i = sym (g refl)
as_many false b m h g i = refl

module _ (t : List ℕ) (n : ℕ) where
  abbrev old_wing : ℕ → ℕ → ℕ
  old_wing u c = pick (is_cell t n c && has_face t c u) 1 0

  abbrev new_wing : ℕ → ℕ → ℕ
  new_wing u c = pick (is_cell t n c) (places t c u) 0

  old_total : (u : ℕ) → old_wings t n u ≡ total (old_wing u) (cells_of t)
  unfolding old_wings
  old_total u = count_is_total (λ c. is_cell t n c && has_face t c u) (cells_of t)

  -- a cell has no more wings by the old count than by the new,
  old_below_new : (u : ℕ) → old_wings t n u ≤ wings t n u
  unfolding wings
  old_below_new u =
      omega (arith, old_total u, total_less (old_wing u) (new_wing u) (cells_of t) (λ c l. no_fewer (is_cell t n c) (has_face t c u) (places t c u) (face_placed t c u)))

  -- and as many where no n-cell repeats a face
  module _ (apart : NoRepeats t n) where
    one_place : (u c : ℕ) → is_cell t n c ≡ true → places t c u ≤ 1
    unfolding places
    one_place u c e =
        once (λ j. eqb (face t c j) u) (used (dim t c))
        (λ j l hj hl ne ej el.
        apart c (cell_live t n c e) (cell_dim t n c e) j l hj hl ne (eqb-true (face t c j) u ej ∙ sym (eqb-true (face t c l) u el)))

    old_is_new : (u : ℕ) → old_wings t n u ≡ wings t n u
    unfolding wings
    old_is_new u =
        old_total u
        ∙ total_cong (old_wing u) (new_wing u) (cells_of t)
        (λ c l. as_many (is_cell t n c) (has_face t c u) (places t c u) (face_placed t c u) (no_face_no_place t c u) (one_place u c))

  -- a sheet stays one where every cell has fewer wings or as many
  fewer_wings : (w w' : ℕ → ℕ) → ((u : ℕ) → w' u ≤ w u) → SheetBy w t n → SheetBy w' t n
  fewer_wings w w' h s =
      record {
        cell = s.cell;
        living = s.living;
        level = s.level;
        largest = s.largest;
        reached = s.reached;
        two_wings = λ u v e. omega (arith, h u, s.two_wings u v e);
      }

  -- What is a sheet now was one before.
  pub new_gives_old : IsSheet t n → IsOldSheet t n
  new_gives_old = fewer_wings (wings t n) (old_wings t n) old_below_new

  -- Where no n-cell repeats a face the two tests agree.
  pub old_and_new_agree : NoRepeats t n → IsSheet t n ↔ IsOldSheet t n
  old_and_new_agree apart =
      (new_gives_old, fewer_wings (old_wings t n) (wings t n) (λ u. omega (arith, old_is_new apart u)))

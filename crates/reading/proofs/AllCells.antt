-- The steps of the loop over the cells of a chain, from what the call has tested.
-- What carries it: a coefficient that is not 0 stands at a live p-cell, whose faces lie inside. Assumes nothing.
use mathlib.Core.Path.{◌≡◌, sym, ap, subst, ◌∙◌}
use mathlib.Core.Bool.{true}
use mathlib.Core.List.{List}
use mathlib.Core.Logic.{⊎_elim}
use Prim.Native.Nat.{ℕ, ◌+◌, ◌^◌, ◌≤◌, ◌<◌}
use native.Mathlib.Omega.{arith}
use borrow.Author.Tests.{ne_eqb, leb-true}
use lib.ListN.{length, get_or, get_or-eq_default}
use lib.IntN.{ℤ, pos, nat_abs, ◌+ℤ◌}
use lib.Dec.{eqb}
use mir.Syntax.{w64}
use mir.Val.{SFits, of_z}
use Rattle.table.specs.Kind.{used}
use Rattle.table.specs.Table.{cells_of, face, is_cell}
use Rattle.counting.proofs.Cases.{below_or_not}
use Rattle.counting.proofs.Tests.{or_else_lem, all_true}
use Rattle.table.proofs.Places.{used_fits}
use Rattle.reading.specs.Sums.{sum_to, integers}
use Rattle.reading.specs.Boundary.{boundary_of, limit, coefficient, all_small, all_placed, place_adds, reached}
use Rattle.reading.specs.Steps.{added, Adding, Addable}
use Rattle.reading.proofs.Lists.{integers_length, integers_at, is_integers}
use Rattle.reading.proofs.Living.{CellOf, cell_true}
use Rattle.reading.proofs.BoundaryLaws.{boundary_is_published}
use Rattle.reading.proofs.Testing.{small_at, placed_at, size_zero}
use Rattle.reading.proofs.Registers.{back, back_is, no_zero}
use Rattle.reading.proofs.Adding.{adding_back}
use Rattle.reading.proofs.Reaching.{reached_none, reached_past, reached_cell, reached_all, size_reached}

-- what the two tests of a chain say of each coefficient
each_small : (n : ℕ) (x : List ℤ) → all_small n x ≡ true → (c : ℕ) → c < n → nat_abs (coefficient x c) ≤ limit
unfolding all_small
each_small n x e c l = leb-true (nat_abs (coefficient x c)) limit (all_true (small_at x) n e c l)

each_placed : (t : List ℕ) (x : List ℤ) (p : ℕ) → all_placed t x p ≡ true → (c : ℕ) → c < cells_of t → (coefficient x c ≡ pos 0 → ⊥) → is_cell t p c ≡ true
unfolding all_placed
each_placed t x p e c l h =
    or_else_lem (eqb (nat_abs (coefficient x c)) 0) (is_cell t p c) (all_true (placed_at t x p) (cells_of t) e c l)
    (ne_eqb (nat_abs (coefficient x c)) 0 (λ q. h (size_zero (coefficient x c) q)))

module _ (t : List ℕ) (x : List ℤ) (p : ℕ) (y₀ : List ℤ) (a : Addable t x p y₀) where
  small_here : (c : ℕ) → c < cells_of t → nat_abs (coefficient x c) ≤ limit
  small_here = each_small (cells_of t) x a.small

  pub none_reached : y₀ ≡ integers (cells_of t) (reached t p (coefficient x) 0)
  none_reached =
      is_integers (cells_of t) (reached t p (coefficient x) 0) y₀ (ap length a.cleared ∙ integers_length (cells_of t) (λ u. pos 0))
      (λ u l. ap (λ (y : List ℤ). get_or y u (pos 0)) a.cleared ∙ integers_at (cells_of t) (λ u. pos 0) u l ∙ sym (reached_none t p (coefficient x) u))

  module _ (y : List ℤ) (c : ℕ) (so_far : y ≡ integers (cells_of t) (reached t p (coefficient x) c)) where
    reached_long : length y ≡ cells_of t
    reached_long = ap length so_far ∙ integers_length (cells_of t) (reached t p (coefficient x) c)

    reached_at : (u : ℕ) → u < cells_of t → get_or y u (pos 0) ≡ reached t p (coefficient x) c u
    reached_at u l = ap (λ (w : List ℤ). get_or w u (pos 0)) so_far ∙ integers_at (cells_of t) (reached t p (coefficient x) c) u l

    room_here : c ≤ cells_of t → (u : ℕ) → nat_abs (get_or y u (pos 0)) ≤ 2 ^ 62
    room_here h u =
        ⊎_elim
        (λ l. rw (reached_at u l) (omega (arith, size_reached t p (coefficient x) small_here c u h, a.valid.sized.room)))
        (λ (l : cells_of t ≤ u). let k : length y ≤ u = omega (arith, reached_long) in rw (get_or-eq_default y (pos 0) k) (omega arith))
        (below_or_not u (cells_of t))

    -- the next cell can be added at any of its places,
    cell_fits : (m : ℕ) → m ≤ used p → c < cells_of t → (coefficient x c ≡ pos 0 → ⊥) → Adding t c m (coefficient x c) y
    cell_fits m few l h =
        let k : CellOf t p c = cell_true t p c (each_placed t x p a.placed c l h) in
        record {
          inside = l;
          places = omega (arith, used_fits p);
          faces_inside = λ j i. subst (λ (n : ℕ). face t c j < n) (sym reached_long) (a.valid.face_live c j k.alive (subst (λ (q : ℕ). j < used q) (sym k.level) (omega arith))).inside;
          small = small_here c l;
          room = room_here (omega arith);
        }

    -- and at all of them it is;
    cell_added : c < cells_of t → (coefficient x c ≡ pos 0 → ⊥) → (y' : List ℤ) → y' ≡ integers (length y) (added t c (coefficient x c) y (used p)) → y' ≡ integers (cells_of t) (reached t p (coefficient x) (c + 1))
    unfolding added
    cell_added l h y' e =
        is_integers (cells_of t) (reached t p (coefficient x) (c + 1)) y'
        (ap length e ∙ integers_length (length y) (added t c (coefficient x c) y (used p)) ∙ reached_long)
        (λ u i.
        ap (λ (w : List ℤ). get_or w u (pos 0)) e
        ∙ integers_at (length y) (added t c (coefficient x c) y (used p)) u (omega (arith, reached_long))
        ∙ ap (λ (w : ℤ). w +ℤ sum_to (used p) (place_adds t c (coefficient x c) u)) (reached_at u i)
        ∙ sym (reached_cell t p (coefficient x) c u (each_placed t x p a.placed c l h)))

    -- the same two, as the registers of the loop have them: m places, and the coefficient come back from its bits;
    module _ (m : ℕ) (fits : SFits w64 (coefficient x c)) (l : c < length x) (h : of_z w64 (coefficient x c) ≡ 0 → ⊥) where
      pub cell_fits_back : m ≤ used p → Adding t c m (back (coefficient x c)) y
      cell_fits_back few = adding_back fits (cell_fits m few (omega (arith, a.long)) (no_zero (coefficient x c) h))

      pub cell_added_back : m ≡ used p → (y' : List ℤ) → y' ≡ integers (length y) (added t c (back (coefficient x c)) y m) → y' ≡ integers (cells_of t) (reached t p (coefficient x) (c + 1))
      cell_added_back places y' e =
          cell_added (omega (arith, a.long)) (no_zero (coefficient x c) h) y'
          (e
          ∙ ap (λ (z : ℤ). integers (length y) (added t c z y m)) (back_is (coefficient x c) fits)
          ∙ ap (λ (n : ℕ). integers (length y) (added t c (coefficient x c) y n)) places)

    -- a coefficient 0 leaves all as it is;
    pub cell_passed : coefficient x c ≡ pos 0 → y ≡ integers (cells_of t) (reached t p (coefficient x) (c + 1))
    cell_passed e =
        is_integers (cells_of t) (reached t p (coefficient x) (c + 1)) y reached_long
        (λ u l. reached_at u l ∙ sym (reached_past t p (coefficient x) c u e))

    -- after the last cell the boundary stands there.
    pub all_reached : c ≤ length x → length x ≤ c → y ≡ integers (cells_of t) (boundary_of t p (coefficient x))
    all_reached h k =
        let e : c ≡ cells_of t = omega (arith, a.long) in
        is_integers (cells_of t) (boundary_of t p (coefficient x)) y reached_long
        (λ u l.
        reached_at u l ∙ ap (λ (n : ℕ). reached t p (coefficient x) n u) e ∙ reached_all t p (coefficient x) u
        ∙ sym (boundary_is_published t a.valid p (coefficient x) u))

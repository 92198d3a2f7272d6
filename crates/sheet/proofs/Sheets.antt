-- The sheet test says yes exactly where the table is a sheet as described.
-- What carries it: a live cell that is no n-cell has a cell over it, one dimension up, so the way up ends at an n-cell; and what is
-- reached is an n-cell or has one over it. The measure of the way up: n less the dimension. Assumes nothing.
use mathlib.Core.Path.{◌≡◌, refl, sym, ap, subst, ◌∙◌}
use mathlib.Core.Bool.{Bool, true, false, ◌&&◌, ◌||◌, not, or-true}
use mathlib.Core.List.{List}
use mathlib.Core.Logic.{◌⊎◌, inl, inr, ⊎_elim, ◌↔◌}
use Prim.Native.Nat.{ℕ, zero, suc, ◌+◌, ◌-◌, ◌≤◌}
use native.Mathlib.Omega.{arith}
use borrow.Author.Tests.{eq-eqb, ne_eqb, le-leb, eqb-true, leb-true}
use lib.Dec.{eqb, leb}
use Rattle.counting.specs.Counting.{some_has, all}
use Rattle.counting.proofs.Counting.{some_has_at}
use Rattle.table.specs.Table.{cells_of, dim, face, Live, live, Valid}
use Rattle.counting.proofs.Tests.{or_else_lem, all_true, all_says}
use Rattle.counting.proofs.Cases.{same_or_not, and_both, and_left, and_right, not_true_false}
use Rattle.table.proofs.Records.{live_says, live_true}
use Rattle.sheet.specs.Sheet.{Reached, itself, through, wings, IsSheet, largest_dim, covered, is_sheet}
use Rattle.sheet.proofs.Dimensions.{largest_bounds, largest_attained}
use Rattle.sheet.proofs.Over.{covered_over, over_covered, over_dim}

-- What the three tests of the call say.
pub record Tests (t : List ℕ) : Type 0 where
  pub living : some_has (live t) (cells_of t) ≡ true
  pub over : (c : ℕ) → Live t c → (dim t c ≡ largest_dim t) ⊎ (covered t c ≡ true)
  pub pairs : (u : ℕ) → Live t u → suc (dim t u) ≡ largest_dim t → wings t (largest_dim t) u ≤ 2

or_not : (a b : Bool) → (a ≡ true → b ≡ true) → (not a || b) ≡ true
or_not true b h = h refl
or_not false b h = refl

pub cases_or : (a b : Bool) → (a ≡ true) ⊎ (b ≡ true) → (a || b) ≡ true
cases_or a b = ⊎_elim (λ e. rw e) (λ e. rw e (or-true a))

module _ (t : List ℕ) where
  abbrev over_at : ℕ → Bool
  over_at c = not (live t c) || (eqb (dim t c) (largest_dim t) || covered t c)

  abbrev is_below : ℕ → Bool
  is_below u = live t u && eqb (suc (dim t u)) (largest_dim t)

  abbrev pair_at : ℕ → Bool
  pair_at u = not (is_below u) || leb (wings t (largest_dim t) u) 2

  abbrev some_live : Bool
  some_live = some_has (live t) (cells_of t)

  over_true : (c : ℕ) → over_at c ≡ true → Live t c → (dim t c ≡ largest_dim t) ⊎ (covered t c ≡ true)
  over_true c e v =
      let h = or_else_lem (not (live t c)) (eqb (dim t c) (largest_dim t) || covered t c) e (ap not (live_says t c v)) in
      ⊎_elim inl (λ i. inr (or_else_lem (eqb (dim t c) (largest_dim t)) (covered t c) h (ne_eqb (dim t c) (largest_dim t) i)))
      (same_or_not (dim t c) (largest_dim t))

  over_says : (c : ℕ) → (Live t c → (dim t c ≡ largest_dim t) ⊎ (covered t c ≡ true)) → over_at c ≡ true
  over_says c h =
      or_not (live t c) (eqb (dim t c) (largest_dim t) || covered t c)
      (λ e. cases_or (eqb (dim t c) (largest_dim t)) (covered t c)
      (⊎_elim (λ i. inl (eq-eqb (dim t c) (largest_dim t) i)) inr (h (live_true t c e))))

  pair_true : (u : ℕ) → pair_at u ≡ true → Live t u → suc (dim t u) ≡ largest_dim t → wings t (largest_dim t) u ≤ 2
  pair_true u e v i =
      leb-true (wings t (largest_dim t) u) 2
      (or_else_lem (not (is_below u)) (leb (wings t (largest_dim t) u) 2) e
      (ap not (and_both (live t u) (eqb (suc (dim t u)) (largest_dim t)) (live_says t u v) (eq-eqb (suc (dim t u)) (largest_dim t) i))))

  pair_says : (u : ℕ) → (Live t u → suc (dim t u) ≡ largest_dim t → wings t (largest_dim t) u ≤ 2) → pair_at u ≡ true
  pair_says u h =
      or_not (is_below u) (leb (wings t (largest_dim t) u) 2)
      (λ e. le-leb (wings t (largest_dim t) u) 2
      (h (live_true t u (and_left (live t u) (eqb (suc (dim t u)) (largest_dim t)) e))
      (eqb-true (suc (dim t u)) (largest_dim t) (and_right (live t u) (eqb (suc (dim t u)) (largest_dim t)) e))))

  pub sheet_tests : is_sheet t ≡ true → Tests t
  unfolding is_sheet
  sheet_tests e =
      let later = and_right some_live (all (cells_of t) over_at && all (cells_of t) pair_at) e in
      record {
        living = and_left some_live (all (cells_of t) over_at && all (cells_of t) pair_at) e;
        over = λ c v. over_true c (all_true over_at (cells_of t) (and_left (all (cells_of t) over_at) (all (cells_of t) pair_at) later) c v.inside) v;
        pairs = λ u v i. pair_true u (all_true pair_at (cells_of t) (and_right (all (cells_of t) over_at) (all (cells_of t) pair_at) later) u v.inside) v i;
      }

  pub tests_sheet : Tests t → is_sheet t ≡ true
  unfolding is_sheet
  tests_sheet s =
      and_both some_live (all (cells_of t) over_at && all (cells_of t) pair_at) s.living
      (and_both (all (cells_of t) over_at) (all (cells_of t) pair_at)
      (all_says over_at (cells_of t) (λ c h. over_says c (s.over c)))
      (all_says pair_at (cells_of t) (λ u h. pair_says u (s.pairs u))))

  -- no live cell exceeds the largest dimension
  no_larger : (c : ℕ) → Live t c → dim t c ≤ largest_dim t
  unfolding largest_dim
  no_larger c v = largest_bounds t (cells_of t) c v.inside (live_says t c v)

  -- and one has it where there is a live cell
  largest_cell : some_live ≡ true → (c : ℕ) × (Live t c) × (dim t c ≡ largest_dim t)
  unfolding largest_dim
  largest_cell e = let a = largest_attained t (cells_of t) e in (a.cell, live_true t a.cell a.living, a.level)

  some_live_lem : (c : ℕ) → Live t c → some_live ≡ true
  some_live_lem c v = some_has_at (live t) (cells_of t) c v.inside (live_says t c v)

-- The way up.
module _ (t : List ℕ) (valid : Valid t) (n : ℕ) where
  up : (c k : ℕ) → Live t c → dim t c + suc k ≡ n → (dim t c ≡ n) ⊎ (covered t c ≡ true) → ((s : ℕ) → Live t s → dim t s + k ≡ n → Reached t n s) → Reached t n c
  up c k v e (inl i) above = itself v i
  up c k v e (inr b) above =
      let o = covered_over t c b in
      subst (Reached t n) o.names
      (through o.place (above o.cell o.living (omega (arith, over_dim t valid c o))) o.used_place)

  climb : ((c : ℕ) → Live t c → (dim t c ≡ n) ⊎ (covered t c ≡ true)) → (k c : ℕ) → Live t c → dim t c + k ≡ n → Reached t n c
  climb cov zero c v e = itself v (omega arith)
  climb cov (suc k) c v e = up c k v e (cov c v) (climb cov k)

  -- what is reached is live, and is an n-cell or covered
  reached_live : {c : ℕ} → Reached t n c → Live t c
  reached_live (itself v e) = v
  reached_live (through {s} j r h) = valid.face_live s j (reached_live r) h

  reached_over : {c : ℕ} → Reached t n c → (dim t c ≡ n) ⊎ (covered t c ≡ true)
  reached_over (itself v e) = inl e
  reached_over (through {s} j r h) =
      inr (over_covered t (face t s j) (record { cell = s; place = j; living = reached_live r; used_place = h; names = refl }))

is_sheet_says : (t : List ℕ) → Valid t → is_sheet t ≡ true → IsSheet t (largest_dim t)
is_sheet_says t v e =
    let s = sheet_tests t e in
    let w = largest_cell t s.living in
    record {
      cell = w.0;
      living = w.1;
      level = w.2;
      largest = no_larger t;
      reached = λ c a. climb t v (largest_dim t) s.over (largest_dim t - dim t c) c a (omega (arith, no_larger t c a));
      two_wings = λ u a i. s.pairs u a (sym i);
    }

-- the dimension of a sheet is the largest one
sheet_dimension : (t : List ℕ) (n : ℕ) → IsSheet t n → n ≡ largest_dim t
sheet_dimension t n s =
    let w = largest_cell t (some_live_lem t s.cell s.living) in
    omega (arith, no_larger t s.cell s.living, s.level, s.largest w.0 w.1, w.2)

sheet_passes : (t : List ℕ) (n : ℕ) → Valid t → IsSheet t n → n ≡ largest_dim t → Tests t
sheet_passes t n v s e =
    record {
      living = some_live_lem t s.cell s.living;
      over = λ c a. ⊎_elim (λ i. inl (i ∙ e)) inr (reached_over t v n (s.reached c a));
      pairs = λ u a i. subst (λ m. wings t m u ≤ 2) e (s.two_wings u a (e ∙ sym i));
    }

sheet_is_sheet : (t : List ℕ) → Valid t → (n : ℕ) → IsSheet t n → (is_sheet t ≡ true) × (n ≡ largest_dim t)
sheet_is_sheet t v n s =
    let e : n ≡ largest_dim t = sheet_dimension t n s in
    (tests_sheet t (sheet_passes t n v s e), e)

pub sheet_yes_iff : (t : List ℕ) → Valid t → (is_sheet t ≡ true) ↔ ((n : ℕ) × IsSheet t n)
sheet_yes_iff t v = (
  λ e. (largest_dim t, is_sheet_says t v e),
  λ w. (sheet_is_sheet t v w.0 w.1).0,
)

-- a table with no live cell says no,
pub no_cells_no : (t : List ℕ) → ((c : ℕ) → Live t c → ⊥) → is_sheet t ≡ false
no_cells_no t none =
    not_true_false (is_sheet t) (λ e. let w = largest_cell t (sheet_tests t e).living in none w.0 w.1)

-- and a table of points says yes.
pub points_yes : (t : List ℕ) → Valid t → (c : ℕ) → Live t c → ((s : ℕ) → Live t s → dim t s ≡ 0) → is_sheet t ≡ true
points_yes t v c a points =
    (sheet_is_sheet t v 0
    (record {
      cell = c;
      living = a;
      level = points c a;
      largest = λ s b. omega (arith, points s b);
      reached = λ s b. itself b (points s b);
      two_wings = λ u b i. absurd (omega arith);
    })).0

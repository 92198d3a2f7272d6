-- The test of each cell by its dimension and its sides is the sheet test.
-- What carries it: the sides of an (n−1)-cell are its wings, and a cell has sides exactly where it is covered. Assumes nothing.
use mathlib.Core.Path.{◌≡◌, refl, sym, ap, ◌∙◌}
use mathlib.Core.Bool.{Bool, true, false, ◌||◌, not, false≢true}
use mathlib.Core.List.{List}
use mathlib.Core.Logic.{◌⊎◌, inl, inr, ⊎_elim}
use Prim.Native.Nat.{ℕ, suc, ◌+◌, ◌≤◌, ◌<◌}
use native.Mathlib.Numerals.{add-one}
use native.Mathlib.Omega.{arith}
use borrow.Author.Tests.{eq-eqb, ne_eqb, ltb-true, lt-ltb, le-ltb, not-true, not-false}
use lib.ListN.{get_or}
use lib.Dec.{eqb, ltb}
use Rattle.counting.specs.Counting.{some_has, pick, all}
use Rattle.table.specs.Kind.{top}
use Rattle.table.specs.Table.{cells_of, dim, Live, live, Valid}
use Rattle.counting.proofs.Tests.{or_else_lem, all_true, all_says}
use Rattle.counting.proofs.Cases.{below_or_not, same_or_not, not_true_false}
use Rattle.sheet.specs.Sheet.{wings, largest_dim, is_sheet}
use Rattle.sheet.specs.Sides.{levels_of, Counted, Crowded, passes, all_pass}
use Rattle.sheet.proofs.Dimensions.{levels_are}
use Rattle.sheet.proofs.Sheets.{Tests, sheet_tests, tests_sheet, cases_or}
use Rattle.sheet.proofs.Wings.{wings_are_sides, covered_sides, sides_covered}

-- What the test of one cell says.
abbrev Passing : ℕ → ℕ → ℕ → Type 0
Passing p l k = (p + 1 ≡ l) ⊎ (1 ≤ k)

module _ (p l k : ℕ) where
  passes_true : passes p l k ≡ true → p ≤ top → Passing p l k
  passes_true e h =
      let later : (eqb (p + 1) l || ltb 0 k) ≡ true = or_else_lem (ltb top p) (eqb (p + 1) l || ltb 0 k) e (le-ltb top p h) in
      ⊎_elim inl (λ i. inr (ltb-true 0 k (or_else_lem (eqb (p + 1) l) (ltb 0 k) later (ne_eqb (p + 1) l i)))) (same_or_not (p + 1) l)

  passes_says : (p ≤ top → Passing p l k) → passes p l k ≡ true
  passes_says h =
      ⊎_elim
      (λ i. rw (lt-ltb top p i))
      (λ i. rw (le-ltb top p i) (cases_or (eqb (p + 1) l) (ltb 0 k) (⊎_elim (λ q. inl (eq-eqb (p + 1) l q)) (λ q. inr (lt-ltb 0 k q)) (h i))))
      (below_or_not top p)

same_truth : (a b : Bool) → (a ≡ true → b ≡ true) → (b ≡ true → a ≡ true) → a ≡ b
same_truth true b f g = sym (f refl)
same_truth false true f g = g refl
same_truth false false f g = refl

-- Counters of a whole table, and its levels.
module _ (t k : List ℕ) (valid : Valid t) (counted : Counted t k (cells_of t)) (living : some_has (live t) (cells_of t) ≡ true) (levels : levels_of t ≡ suc (largest_dim t)) where
  abbrev l : ℕ
  l = levels_of t

  abbrev passes_at : ℕ → Bool
  passes_at c = passes (dim t c) l (get_or k c 0)

  -- no (n−1)-cell has a counter above 2, which is the number of its wings
  two_wings : (u : ℕ) → Live t u → suc (dim t u) ≡ largest_dim t → wings t (largest_dim t) u ≤ 2
  two_wings u v i =
      let told = counted.each u v.inside in
      omega (arith, told.few, told.wings (omega (arith, levels)), wings_are_sides t valid (largest_dim t) u (sym i))

  passing_tests : ((c : ℕ) → c < cells_of t → passes_at c ≡ true) → Tests t
  passing_tests each =
      record {
        living = living;
        over = λ c v.
            ⊎_elim
            (λ i. inl (omega (arith, levels)))
            (λ i. inr (sides_covered t c (omega (arith, (counted.each c v.inside).most))))
            (passes_true (dim t c) l (get_or k c 0) (each c v.inside) v.low);
        pairs = two_wings;
      }

  tests_passing : Tests t → (c : ℕ) → c < cells_of t → passes_at c ≡ true
  tests_passing s c h =
      passes_says (dim t c) l (get_or k c 0)
      (λ low.
      ⊎_elim
      (λ i. inl (omega (arith, levels)))
      (λ b. inr ((counted.each c h).some (covered_sides t c b)))
      (s.over c (record { inside = h; low = low })))

  passes_is_sheet : all_pass t l k ≡ is_sheet t
  unfolding all_pass
  passes_is_sheet =
      same_truth (all (cells_of t) passes_at) (is_sheet t)
      (λ e. tests_sheet t (passing_tests (all_true passes_at (cells_of t) e)))
      (λ e. all_says passes_at (cells_of t) (tests_passing (sheet_tests t e)))

-- what the number of levels says
no_level : (b : Bool) (m : ℕ) → pick b (suc m) 0 ≡ 0 → b ≡ false
no_level true m e = absurd (omega arith)
no_level false m e = refl

some_level : (b : Bool) (m : ℕ) → (pick b (suc m) 0 ≡ 0 → ⊥) → (b ≡ true) × (pick b (suc m) 0 ≡ suc m)
some_level true m e = (refl, refl)
some_level false m e = absurd (e refl)

module _ (t : List ℕ) where
  pub no_levels_no : levels_of t ≡ 0 → is_sheet t ≡ false
  unfolding largest_dim
  no_levels_no z =
      let b = no_level (some_has (live t) (cells_of t)) (largest_dim t) (sym (levels_are t (cells_of t)) ∙ z) in
      not_true_false (is_sheet t) (λ i. false≢true (sym b ∙ (sheet_tests t i).living))

  -- the levels of a table that has one
  levels_here : (levels_of t ≡ 0 → ⊥) → (some_has (live t) (cells_of t) ≡ true) × (levels_of t ≡ suc (largest_dim t))
  unfolding largest_dim
  levels_here z =
      let b = some_level (some_has (live t) (cells_of t)) (largest_dim t) (λ q. z (levels_are t (cells_of t) ∙ q)) in
      (b.0, levels_are t (cells_of t) ∙ b.1)

  pub sheet_by_counters : (k : List ℕ) → Valid t → Counted t k (cells_of t) → (levels_of t ≡ 0 → ⊥) → all_pass t (levels_of t) k ≡ is_sheet t
  sheet_by_counters k v h z = let b = levels_here z in passes_is_sheet t k v h b.0 b.1

  -- a third wing says no
  pub crowded_no : Valid t → (levels_of t ≡ 0 → ⊥) → Crowded t → is_sheet t ≡ false
  crowded_no v z w =
      let b = levels_here z in
      let i : suc (dim t w.cell) ≡ largest_dim t = omega (arith, b.1, w.level) in
      not_true_false (is_sheet t)
      (λ q. omega (arith, (sheet_tests t q).pairs w.cell w.living i, wings_are_sides t v (largest_dim t) w.cell (sym i), w.three))

-- the pass over the cells: at the start, one turn more, the turn at which it stops, and the end
module _ (t k : List ℕ) (l : ℕ) where
  abbrev pub passed : ℕ → Type 0
  passed c = all c (λ s. passes (dim t s) l (get_or k s 0)) ≡ true

  pub passed_none : passed 0
  unfolding all
  passed_none = refl

  -- the test of cell c answers b, where p is its dimension
  answers : (c p : ℕ) (b : Bool) → p ≡ dim t c → b ≡ passes p l (get_or k c 0) → passes (dim t c) l (get_or k c 0) ≡ b
  answers c p b d e = ap (λ q. passes q l (get_or k c 0)) (sym d) ∙ sym e

  pub passed_more : (c p : ℕ) (b : Bool) → passed c → p ≡ dim t c → b ≡ passes p l (get_or k c 0) → not b ≡ false → passed (c + 1)
  unfolding all
  passed_more c p b h d e i = rw (add-one c, h) (answers c p b d e ∙ not-false b i)

  pub passed_stops : (c n p : ℕ) (b : Bool) → n ≡ cells_of t → c < n → p ≡ dim t c → b ≡ passes p l (get_or k c 0) → not b ≡ true → false ≡ all_pass t l k
  unfolding all_pass
  passed_stops c n p b z h d e i =
      sym (not_true_false (all (cells_of t) (λ s. passes (dim t s) l (get_or k s 0)))
      (λ a. false≢true (sym (answers c p b d e ∙ not-true b i) ∙ all_true (λ s. passes (dim t s) l (get_or k s 0)) (cells_of t) a c (omega arith))))

  pub passed_all : (c n : ℕ) → n ≡ cells_of t → c ≤ n → n ≤ c → passed c → true ≡ all_pass t l k
  unfolding all_pass
  passed_all c n z h g a =
      let e : c ≡ cells_of t = omega arith in
      sym (sym (ap (λ m. all m (λ s. passes (dim t s) l (get_or k s 0))) e) ∙ a)

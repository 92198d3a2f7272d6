-- The two tests of a row are rules A and B as printed.
-- What carries it: a row has no member past its words, and a boundary none past the table; so a test over the numbers below is a
-- statement about all. Assumes nothing.
use mathlib.Core.Path.{◌≡◌, refl, sym, ap, ◌∙◌}
use mathlib.Core.Bool.{true, false, not, ◌&&◌, ◌||◌}
use mathlib.Core.List.{List}
use mathlib.Core.Logic.{◌↔◌}
use Prim.Native.Nat.{ℕ, zero, suc, ◌*◌, ◌<◌}
use native.Mathlib.Omega.{arith}
use borrow.Author.Tests.{eq-eqb, ne_eqb}
use lib.Dec.{eqb}
use lib.ListN.{length}
use Rattle.counting.proofs.Cases.{not_true_false}
use Rattle.homology.specs.Cells.{Cells, Lawful}
use Rattle.homology.specs.Evidence.{RuleA, RuleB, IsLargest}
use Rattle.homology.proofs.Marks.{by_mark, clash}
use Rattle.homology.proofs.Chains.{boundary_member, boundary_below}
use Rattle.homology.proofs.ChainKinds.{empty_boundary}
use Rattle.homology.proofs.Tops.{member_below}
use Rattle.counting.specs.Counting.{some_has, all}
use Rattle.counting.proofs.Counting.{some_has_none, some_has_at}
use Rattle.bitset.specs.Bits.{bits, member}
use Rattle.rows.specs.Rows.{evidence_words, row_of, rows, RowLive}
use Rattle.rows.proofs.RowWords.{length_row_of, rule_a_live}
use Rattle.checker.specs.Check.{keeps_a, keeps_b, row_boundary, row_largest}
use Rattle.checker.specs.Row.{row_keeps}
use Rattle.homology.proofs.LargestBelow.{empty_largest, largest_below_said, largest_below_says}
use Rattle.checker.proofs.RowTests.{fits, Fitting, kept_members, kept_own, members_kept}

-- the test of row c is that of its words
pub keeps_a_of_words : (K : Cells) (ev : List ℕ) → length ev ≡ evidence_words K → (c : ℕ) → c < K.size → row_keeps K c (row_of K ev c) ≡ keeps_a K ev c
unfolding keeps_a row_keeps rows
keeps_a_of_words K ev long c inside =
    ap (λ (n : ℕ). all (bits * n) (λ s. not (member (row_of K ev c) s) || fits K c s) && (not (K.live c) || member (row_of K ev c) c))
    (length_row_of K ev long c inside)

module _ (K : Cells) (ev : List ℕ) (long : length ev ≡ evidence_words K) (c : ℕ) (inside : c < K.size) where
  -- what a row that keeps rule A has as a member
  pub kept_fits : keeps_a K ev c ≡ true → (s : ℕ) → rows K ev c s ≡ true → Fitting K c s
  unfolding rows
  kept_fits e s m = kept_members K c (row_of K ev c) (keeps_a_of_words K ev long c inside ∙ e) s m

  rule_of_test : keeps_a K ev c ≡ true → RuleA K (rows K ev) c
  unfolding rows
  rule_of_test e = record {
    free = λ f s. not_true_false (rows K ev c s) (λ m. clash (kept_fits e s m).cell_live f);
    own = kept_own K c (row_of K ev c) (keeps_a_of_words K ev long c inside ∙ e);
    highest = λ h s l. not_true_false (rows K ev c s) (λ m. omega (arith, (kept_fits e s m).low));
    alike = λ h s m. let f = kept_fits e s m in (f.member_live, f.level);
  }

  -- and it has live members alone
  pub kept_row_live : keeps_a K ev c ≡ true → RowLive K ev c
  kept_row_live e = rule_a_live K ev c (rule_of_test e)

  test_of_rule : RuleA K (rows K ev) c → keeps_a K ev c ≡ true
  unfolding rows
  test_of_rule r = sym (keeps_a_of_words K ev long c inside) ∙ members_kept K c (row_of K ev c)
      (λ s m. by_mark (K.live c)
      (λ h. let late : c < s → ⊥ = λ l. clash m (r.highest h s l) in
      record { cell_live = h; low = omega arith; member_live = (r.alike h s m).0; level = (r.alike h s m).1 })
      (λ h. clash m (r.free h s)))
      r.own

  pub keeps_a_is_rule_a : (keeps_a K ev c ≡ true) ↔ RuleA K (rows K ev) c
  keeps_a_is_rule_a = (rule_of_test, test_of_rule)

  -- the row of a free number has no member, and that of a point no member with a face
  pub free_no_largest : keeps_a K ev c ≡ true → K.live c ≡ false → row_largest K ev c ≡ 0
  free_no_largest e off = empty_largest (row_boundary K ev c) K.size (empty_boundary K (rows K ev c) ((rule_of_test e).free off))

  pub point_no_largest : Lawful K → keeps_a K ev c ≡ true → K.dim c ≡ 0 → row_largest K ev c ≡ 0
  point_no_largest law e z = empty_largest (row_boundary K ev c) K.size (λ u. not_true_false (row_boundary K ev c u) (λ b.
      let r = boundary_member K law (rows K ev c) u b in
      omega (arith, r.2.one_down, (kept_fits e r.0 r.1).level)))

module _ (K : Cells) (ev : List ℕ) (law : Lawful K) where
  -- the number of a row's largest boundary cell
  pub row_largest_says : (c m : ℕ) → row_largest K ev c ≡ suc m → IsLargest (row_boundary K ev c) m
  row_largest_says c m e = largest_below_says (row_boundary K ev c) K.size m (boundary_below K law (rows K ev c)) e

  pub row_largest_said : (c m : ℕ) → IsLargest (row_boundary K ev c) m → row_largest K ev c ≡ suc m
  row_largest_said c m h =
      largest_below_said (row_boundary K ev c) K.size m (member_below K.size (row_boundary K ev c) (boundary_below K law (rows K ev c)) m h.member) h

  rule_of_test_b : (c : ℕ) → keeps_b K ev c ≡ true → RuleB K (rows K ev) c
  unfolding keeps_b RuleB
  rule_of_test_b c e b m l hb hc =
      let top : row_largest K ev c ≡ suc m = row_largest_said c m hc in
      let same : eqb (row_largest K ev b) (row_largest K ev c) ≡ true = eq-eqb (row_largest K ev b) (row_largest K ev c) (row_largest_said b m hb ∙ sym top) in
      let one : some_has (λ d. eqb (row_largest K ev d) (row_largest K ev c)) c ≡ true = some_has_at (λ d. eqb (row_largest K ev d) (row_largest K ev c)) c b l same in
      clash e (rw (ne_eqb (row_largest K ev c) 0 (λ z. omega (arith, top)), one))

  test_of_rule_b : (c : ℕ) → RuleB K (rows K ev) c → keeps_b K ev c ≡ true
  unfolding keeps_b RuleB
  test_of_rule_b c r = go (row_largest K ev c) refl
    where
      none : (m : ℕ) → row_largest K ev c ≡ suc m → (b : ℕ) → b < c → eqb (row_largest K ev b) (row_largest K ev c) ≡ false
      none m e b l = ne_eqb (row_largest K ev b) (row_largest K ev c) (λ q. r b m l (row_largest_says b m (q ∙ e)) (row_largest_says c m e))

      go : (k : ℕ) → row_largest K ev c ≡ k → (eqb (row_largest K ev c) 0 || not (some_has (λ b. eqb (row_largest K ev b) (row_largest K ev c)) c)) ≡ true
      go zero e = rw (eq-eqb (row_largest K ev c) 0 e)
      go (suc m) e = rw (ne_eqb (row_largest K ev c) 0 (λ z. omega arith), some_has_none (λ b. eqb (row_largest K ev b) (row_largest K ev c)) c (none m e))

  pub keeps_b_is_rule_b : (c : ℕ) → (keeps_b K ev c ≡ true) ↔ RuleB K (rows K ev) c
  keeps_b_is_rule_b c = (rule_of_test_b c, test_of_rule_b c)

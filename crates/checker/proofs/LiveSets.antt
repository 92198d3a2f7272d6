-- The live cells of each dimension up to a number, as seven sets one after another: how they grow, and rule A as one row inside one set.
-- What carries it: s is in set p where number 512·p + s is in the whole. Assumes nothing.
use mathlib.Core.Path.{◌≡◌, refl, sym, ap, ap₂, subst, ◌∙◌}
use mathlib.Core.Bool.{Bool, true, false, ◌&&◌}
use mathlib.Core.List.{List}
use mathlib.Core.Logic.{by_cases}
use Prim.Native.Nat.{ℕ, ◌+◌, ◌*◌, ◌/◌, ◌%◌, ◌≤◌, ◌<◌}
use native.Mathlib.Decide.{ℕ_discrete}
use native.Mathlib.Omega.{arith}
use borrow.Author.Tests.{eq-eqb, ne_eqb, lt-ltb, le-ltb, ltb-true}
use lib.Dec.{eqb, ltb}
use lib.ListN.{length, get_or, replicate}
use Rattle.counting.proofs.Cases.{and_both, and_left, and_right}
use Rattle.homology.specs.Cells.{Cells, ◌⊻◌}
use Rattle.homology.proofs.Marks.{⊻-off, &&-off}
use Rattle.homology.proofs.ChainKinds.{is_cell, cell_live, cell_level}
use Rattle.bitset.specs.Bits.{bits, digit, mark, member, toggled, IsWithin, full_width}
use Rattle.bitset.proofs.Marks.{length_toggled, member_true, true_member}
use Rattle.table.specs.Kind.{capacity, top}
use Rattle.rows.proofs.Members.{member_toggled, member_zeros, member_inside}
use Rattle.bitset.specs.Rows.{row_at}
use Rattle.bitset.proofs.RowLaws.{get_or_row}
use Rattle.checker.specs.Row.{row_keeps, live_words, Lives}
use Rattle.checker.proofs.Dimensions.{cell_says, other_dimension}
use Rattle.checker.proofs.RowTests.{same_test, Fitting, kept_members, members_kept}

-- ---- growing

pub lives_none : (K : Cells) → Lives K 0 (replicate live_words 0)
lives_none K = record {
  long = refl;
  each = λ p s low fits. member_zeros live_words (capacity * p + s) ∙ sym (ap (λ (b : Bool). b && is_cell K p s) (le-ltb s 0 (omega arith)));
}

-- one number more
not_here : (s c : ℕ) → (s ≡ c → ⊥) → ltb s c ≡ ltb s (c + 1)
not_here s c apart = same_test (ltb s c) (ltb s (c + 1))
    (λ e. let l : s < c = ltb-true s c e in lt-ltb s (c + 1) (omega arith))
    (λ e. let l : s < c + 1 = ltb-true s (c + 1) e in lt-ltb s c (omega arith))

-- a number that is not in a set
unchanged : (s c : ℕ) (x : Bool) → (s ≡ c → x ≡ false) → (ltb s c && x) ≡ (ltb s (c + 1) && x)
unchanged s c x off = by_cases (ℕ_discrete s c)
    (λ e. rw (off e) (&&-off (ltb s c) ∙ sym (&&-off (ltb s (c + 1)))))
    (λ apart. ap (λ (b : Bool). b && x) (not_here s c apart))

module _ (K : Cells) (c : ℕ) (ws : List ℕ) (so : Lives K c ws) where
  pub lives_free : (p : ℕ) → p ≡ K.dim c → top < p → Lives K (c + 1) ws
  lives_free p e high = record {
    long = so.long;
    each = λ q s low fits. so.each q s low fits
        ∙ unchanged s c (is_cell K q s) (λ i. subst (λ (u : ℕ). is_cell K q u ≡ false) (sym i) (other_dimension K q c (λ d. omega arith)));
  }

  module _ (p : ℕ) (e : p ≡ K.dim c) (alive : K.live c ≡ true) (level : p ≤ top) (small : c < capacity) where
    lives_place : (capacity * p + c) / bits < length ws
    lives_place = omega (arith, so.long)

    at : (q s : ℕ) → q ≤ top → s < capacity → member ws (capacity * q + s) ⊻ eqb (capacity * p + c) (capacity * q + s) ≡ (ltb s (c + 1) && is_cell K q s)
    at q s low fits = by_cases (ℕ_discrete (capacity * p + c) (capacity * q + s))
        (λ i. let same : p ≡ q = omega arith in let here : c ≡ s = omega arith in
        ap₂ ◌⊻◌ (so.each q s low fits ∙ ap (λ (b : Bool). b && is_cell K q s) (le-ltb s c (omega arith))) (eq-eqb (capacity * p + c) (capacity * q + s) i)
        ∙ sym (and_both _ _ (lt-ltb s (c + 1) (omega arith)) (subst (λ (u : ℕ). is_cell K q u ≡ true) here (cell_says K q c alive (sym e ∙ same)))))
        (λ apart. ap₂ ◌⊻◌ (so.each q s low fits) (ne_eqb (capacity * p + c) (capacity * q + s) apart)
        ∙ ⊻-off (ltb s c && is_cell K q s)
        ∙ unchanged s c (is_cell K q s) (λ i. subst (λ (u : ℕ). is_cell K q u ≡ false) (sym i) (other_dimension K q c (λ d. apart (omega arith)))))

    pub lives_toggled : Lives K (c + 1) (toggled ws (capacity * p + c))
    lives_toggled = record {
      long = length_toggled ws (capacity * p + c) ∙ so.long;
      each = λ q s low fits. member_toggled ws (capacity * p + c) lives_place (capacity * q + s) ∙ at q s low fits;
    }

-- ---- one set of the seven

set_at : (ws : List ℕ) (p s : ℕ) → s < capacity → mark (row_at full_width ws p) s ≡ mark ws (capacity * p + s)
unfolding mark
set_at ws p s fits =
    let word : p * full_width + s / bits ≡ (capacity * p + s) / bits = omega arith in
    let bit : s % bits ≡ (capacity * p + s) % bits = omega arith in
    ap₂ digit (get_or_row full_width ws p (s / bits) (omega arith) ∙ ap (λ (k : ℕ). get_or ws k 0) word) bit

-- rule A of a live cell that is in its own row
module _ (K : Cells) (c : ℕ) (row ws : List ℕ) (alive : K.live c ≡ true) (short : length row ≤ full_width) (so : Lives K (c + 1) ws) (own : member row c ≡ true) (p : ℕ) (e : p ≡ K.dim c) (level : p ≤ top) where
  in_set : (s : ℕ) → s < capacity → mark (row_at full_width ws p) s ≡ 1 → Fitting K c s
  in_set s fits m =
      let on : (ltb s (c + 1) && is_cell K p s) ≡ true = sym (so.each p s level fits) ∙ true_member ws (capacity * p + s) (sym (set_at ws p s fits) ∙ m) in
      let cell : is_cell K p s ≡ true = and_right (ltb s (c + 1)) (is_cell K p s) on in
      let below : s < c + 1 = ltb-true s (c + 1) (and_left (ltb s (c + 1)) (is_cell K p s) on) in
      record {
        cell_live = alive;
        low = omega arith;
        member_live = cell_live K p s cell;
        level = cell_level K p s cell ∙ e;
      }

  set_has : (s : ℕ) → s < capacity → Fitting K c s → mark (row_at full_width ws p) s ≡ 1
  set_has s fits f =
      set_at ws p s fits
      ∙ member_true ws (capacity * p + s)
      (so.each p s level fits ∙ and_both _ _ (lt-ltb s (c + 1) (omega (arith, f.low))) (cell_says K p s f.member_live (f.level ∙ sym e)))

  pub row_within : (r : Bool) → IsWithin row (row_at full_width ws p) r → r ≡ row_keeps K c row
  row_within r h =
      same_test r (row_keeps K c row)
      (λ q. members_kept K c row (λ s m. in_set s (inside s m) (h.says q s (member_true row s m))) (λ on. own))
      (λ q. h.said (λ s m. set_has s (inside s (true_member row s m)) (kept_members K c row q s (true_member row s m))))
    where
      inside : (s : ℕ) → member row s ≡ true → s < capacity
      inside s m = omega (arith, member_inside row s m)

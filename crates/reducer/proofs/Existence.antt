-- Evidence by the rule exists for all lawful cells: it is what `Computed` computes. So every valid table has hole numbers.
-- The invariant: the rows so far are by the rule, with the height of each boundary and the additions of each beside them. Assumes nothing.
use mathlib.Core.Path.{◌≡◌, refl, sym, ap, subst, ◌∙◌}
use mathlib.Core.Bool.{true, false}
use mathlib.Core.List.{List, [], ◌∷◌, ◌++◌}
use Prim.Native.Nat.{ℕ, zero, suc, ◌*◌, ◌<◌}
use native.Mathlib.Nat.{suc-mul}
use native.Mathlib.Omega.{arith}
use lib.ListN.{length, get_or, length-append, length-replicate, get_or-append}
use lib.Seq.{get_or-append_seam}
use Rattle.homology.specs.Cells.{Cells, Lawful}
use Rattle.homology.specs.Holes.{IsHoleNumber}
use Rattle.homology.specs.Evidence.{Meets, holes_in}
use Rattle.homology.proofs.Marks.{by_mark, clash}
use Rattle.homology.proofs.HoleTheorem.{holes_are_hole_numbers}
use Rattle.bitset.proofs.Marks.{length_sum}
use Rattle.bitset.proofs.RowLaws.{earlier_row, last_row}
use Rattle.table.specs.Table.{Valid}
use Rattle.complex.specs.Cells.{cells}
use Rattle.complex.proofs.Boundary.{valid_is_lawful}
use Rattle.rows.specs.Rows.{row_width, row_of, rows}
use Rattle.reducer.specs.Rule.{Additions, stop, add, alone, empty_row, RowByRule, ByRule}
use Rattle.reducer.proofs.Meeting.{alone_width, by_rule_meets}
use Rattle.reducer.proofs.LowerRows.{additions_stay, rule_stays, one_row_more}
use Rattle.reducer.proofs.OneOutcome.{by_rule_determines}
use Rattle.reducer.proofs.Computed.{boundary_height, Outcome, Done, add_rows, next_row, with_row, rows_below, reduced_evidence, reduced_additions, WithHeights, row_by_rule}

-- ---- one row more

-- additions leave a row's width
additions_width : (K : Cells) (ev : List ℕ) (c : ℕ) {x y : List ℕ} {n : ℕ} → Additions K ev c x n y → length y ≡ length x
additions_width K ev c (stop none) = refl
additions_width K ev c (add {x} b m l g h rest) = additions_width K ev c rest ∙ length_sum x (row_of K ev b)

module _ (K : Cells) (ev y : List ℕ) (c : ℕ) (long : length ev ≡ c * row_width K) where
  earlier_row_of : (b : ℕ) → b < c → row_of K (ev ++ y) b ≡ row_of K ev b
  unfolding row_of
  earlier_row_of b l = earlier_row (row_width K) ev y c long b l

  last_row_of : length y ≡ row_width K → row_of K (ev ++ y) c ≡ y
  unfolding row_of
  last_row_of wide = last_row (row_width K) ev y c long wide

-- a list with one number more
module _ (xs : List ℕ) (y c : ℕ) (long : length xs ≡ c) where
  earlier_number : (b : ℕ) → b < c → get_or (xs ++ (y ∷ [])) b 0 ≡ get_or xs b 0
  earlier_number b l = get_or-append xs (y ∷ []) 0 b (omega arith)

  last_number : get_or (xs ++ (y ∷ [])) c 0 ≡ y
  last_number = ap (λ (n : ℕ). get_or (xs ++ (y ∷ [])) n 0) (sym long) ∙ get_or-append_seam xs y [] 0

  one_longer : length (xs ++ (y ∷ [])) ≡ suc c
  one_longer = length-append xs (y ∷ []) ∙ omega arith

-- ---- the rows so far

record SoFar (K : Cells) (c : ℕ) (d : Done) : Type 0 where
  pub heights_are : WithHeights K d.evidence d.heights c
  pub as_many_heights : length d.heights ≡ c
  pub as_many_additions : length d.additions ≡ c
  pub by_rule : (b : ℕ) → b < c → RowByRule K d.evidence b (get_or d.additions b 0)

-- row c, before it stands in the evidence
record Next (K : Cells) (ev : List ℕ) (c : ℕ) (r : Outcome) : Type 0 where
  pub wide : length r.row ≡ row_width K
  pub free_row : K.live c ≡ false → r.row ≡ empty_row K
  pub free_none : K.live c ≡ false → r.made ≡ 0
  pub live_row : K.live c ≡ true → Additions K ev c (alone K c) r.made r.row

none_so_far : (K : Cells) → SoFar K 0 (rows_below K 0)
unfolding rows_below
none_so_far K = record {
  heights_are = record { long = omega arith; each = λ b l. absurd (omega arith) };
  as_many_heights = refl;
  as_many_additions = refl;
  by_rule = λ b l. absurd (omega arith);
}

next_is_next : (K : Cells) → Lawful K → (c : ℕ) (d : Done) → SoFar K c d → Next K d.evidence c (next_row K c d)
unfolding next_row
next_is_next K lawful c d so = by_mark (K.live c)
    (λ e. rw e (record {
      wide = additions_width K d.evidence c made ∙ alone_width K c;
      free_row = λ f. clash e f;
      free_none = λ f. clash e f;
      live_row = λ f. made;
    }))
    (λ e. rw e (record { wide = length-replicate (row_width K) 0; free_row = λ f. refl; free_none = λ f. refl; live_row = λ f. clash f e }))
  where
    made : Additions K d.evidence c (alone K c) (add_rows K d.evidence d.heights c K.size (alone K c)).made (add_rows K d.evidence d.heights c K.size (alone K c)).row
    made = row_by_rule K lawful d.evidence d.heights c so.heights_are

module _ (K : Cells) (c : ℕ) (d : Done) (r : Outcome) (so : SoFar K c d) (next : Next K d.evidence c r) where
  ev : List ℕ
  ev = d.evidence

  ev' : List ℕ
  ev' = d.evidence ++ r.row

  same : (b : ℕ) → b < c → row_of K ev' b ≡ row_of K ev b
  unfolding ev ev'
  same = earlier_row_of K d.evidence r.row c so.heights_are.long

  here : row_of K ev' c ≡ r.row
  unfolding ev'
  here = last_row_of K d.evidence r.row c so.heights_are.long next.wide

  rule_here : RowByRule K ev' c r.made
  unfolding ev
  rule_here = record {
    free_row = λ e. here ∙ next.free_row e;
    free_none = next.free_none;
    live_row = λ e. subst (Additions K ev' c (alone K c) r.made) (sym here)
        (additions_stay K ev ev' c same (next.live_row e));
  }

  one_row_so_far : SoFar K (suc c) (with_row K d r)
  unfolding with_row ev ev'
  one_row_so_far = record {
    heights_are = record {
      long = length-append d.evidence r.row ∙ omega (arith, so.heights_are.long, next.wide, suc-mul c (row_width K));
      each = one_row_more c
          (λ b l. earlier_number d.heights (boundary_height K r.row) c so.as_many_heights b l
          ∙ so.heights_are.each b l
          ∙ ap (boundary_height K) (sym (same b l)))
          (last_number d.heights (boundary_height K r.row) c so.as_many_heights ∙ ap (boundary_height K) (sym here));
    };
    as_many_heights = one_longer d.heights (boundary_height K r.row) c so.as_many_heights;
    as_many_additions = one_longer d.additions r.made c so.as_many_additions;
    by_rule = one_row_more c
        (λ b l. subst (RowByRule K ev' b) (sym (earlier_number d.additions r.made c so.as_many_additions b l)) (rule_stays K ev ev' b _ (λ i k. same i (omega arith)) (so.by_rule b l)))
        (subst (RowByRule K ev' c) (sym (last_number d.additions r.made c so.as_many_additions)) rule_here);
  }

rows_so_far : (K : Cells) → Lawful K → (c : ℕ) → SoFar K c (rows_below K c)
unfolding rows_below
rows_so_far K lawful zero = none_so_far K
rows_so_far K lawful (suc c) =
    let so : SoFar K c (rows_below K c) = rows_so_far K lawful c in
    one_row_so_far K c (rows_below K c) (next_row K c (rows_below K c)) so (next_is_next K lawful c (rows_below K c) so)

-- ---- the theorems

-- what is computed is by the rule
pub reduced_by_rule : (K : Cells) → Lawful K → ByRule K (reduced_evidence K) (reduced_additions K)
unfolding reduced_evidence reduced_additions
reduced_by_rule K lawful =
    let so : SoFar K K.size (rows_below K K.size) = rows_so_far K lawful K.size in
    record { size = so.heights_are.long; each = so.by_rule }

-- and evidence by the rule is what is computed
pub by_rule_is_computed : (K : Cells) (ev : List ℕ) (adds : ℕ → ℕ) → Lawful K → ByRule K ev adds → (ev ≡ reduced_evidence K) × ((c : ℕ) → c < K.size → adds c ≡ reduced_additions K c)
by_rule_is_computed K ev adds lawful by = by_rule_determines K ev (reduced_evidence K) adds (reduced_additions K) by (reduced_by_rule K lawful)

pub reduced_meets : (K : Cells) → Lawful K → Meets K (rows K (reduced_evidence K))
reduced_meets K lawful = by_rule_meets K (reduced_evidence K) (reduced_additions K) lawful (reduced_by_rule K lawful)

-- lawful cells have a hole number in each dimension, and so has every valid table
lawful_hole_numbers : (K : Cells) → Lawful K → (p : ℕ) → (b : ℕ) × IsHoleNumber K p b
lawful_hole_numbers K lawful p =
    (holes_in K (rows K (reduced_evidence K)) p, holes_are_hole_numbers K lawful (rows K (reduced_evidence K)) (reduced_meets K lawful) p)

pub hole_numbers_exist : (t : List ℕ) → Valid t → (p : ℕ) → (b : ℕ) × IsHoleNumber (cells t) p b
hole_numbers_exist t v p = lawful_hole_numbers (cells t) (valid_is_lawful t v) p

-- Counters by dimension: a list whose place p holds how many of the numbers passed have dimension p, and a property.
-- What carries it: one number more is counted at its own place, or at none. Assumes nothing.
use mathlib.Core.Path.{◌≡◌, sym, ap, subst, ◌∙◌}
use mathlib.Core.Bool.{Bool, true, ◌&&◌}
use mathlib.Core.List.{List}
use Prim.Native.Nat.{ℕ, zero, suc, ◌+◌, ◌-◌, ◌<◌}
use Rattle.std.proofs.Common.{add-zero}
use native.Mathlib.Omega.{arith}
use denote.Param.Members.{Mut, Called}
use Rattle.std.specs.Array.{IsFromFnResult, IsFromFnResultFrom}
use lib.ListN.{length, get_or, set}
use lib.Seq.{ext_get_or}
use Rattle.counting.proofs.Cases.{and_both}
use Rattle.counting.specs.Counting.{how_many, listed}
use Rattle.counting.proofs.Tallies.{Tally, tally_counted, tally_skipped}
use Rattle.homology.specs.Cells.{Cells, Lawful}
use Rattle.homology.specs.Evidence.{bounding_in}
use Rattle.homology.proofs.Marks.{&&-off}
use Rattle.homology.proofs.Chains.{boundary_member}
use Rattle.homology.proofs.ChainKinds.{is_cell}
use Rattle.homology.proofs.HoleCells.{is_bounding}
use Rattle.table.specs.Kind.{top}
use Rattle.counting.proofs.Listed.{length_listed, get_or_listed}
use Rattle.rows.specs.Rows.{evidence_words, rows}
use Rattle.checker.specs.Check.{keeps_a, row_boundary, row_largest}
use Rattle.checker.specs.Row.{differences}
use Rattle.homology.proofs.LargestBelow.{any_on_largest, any_off_largest}
use Rattle.checker.proofs.Dimensions.{cell_says, other_dimension}
use Rattle.checker.proofs.Rules.{kept_fits, row_largest_says}

-- ---- the rows with a boundary

abbrev pub is_bounding_at : Cells → List ℕ → ℕ → ℕ → Bool
is_bounding_at K ev p c = is_cell K p c && is_bounding K (rows K ev) c

module _ (K : Cells) (ev : List ℕ) (law : Lawful K) (long : length ev ≡ evidence_words K) (c : ℕ) (inside : c < K.size) where
  -- a row with a boundary belongs to a live cell
  pub bounding_live : (m : ℕ) → keeps_a K ev c ≡ true → row_largest K ev c ≡ suc m → K.live c ≡ true
  bounding_live m a e =
      let r = boundary_member K law (rows K ev c) m (row_largest_says K ev law c m e).member in
      (kept_fits K ev long c inside a r.0 r.1).cell_live

  pub row_counted : (n m p : ℕ) (xs : List ℕ) → keeps_a K ev c ≡ true → row_largest K ev c ≡ suc m → p ≡ K.dim c → p < n → Tally n (is_bounding_at K ev) c xs → Tally n (is_bounding_at K ev) (c + 1) (set xs p (get_or xs p 0 + 1))
  row_counted n m p xs a e g l k =
      tally_counted k p l
      (and_both _ _ (cell_says K p c (bounding_live m a e) (sym g)) (any_on_largest (row_boundary K ev c) K.size m e))
      (λ q ne. ap (λ (b : Bool). b && is_bounding K (rows K ev) c) (other_dimension K q c (λ z. ne (sym (g ∙ z)))))

pub row_skipped : (K : Cells) (ev : List ℕ) (c n : ℕ) (xs : List ℕ) → row_largest K ev c ≡ 0 → Tally n (is_bounding_at K ev) c xs → Tally n (is_bounding_at K ev) (c + 1) xs
row_skipped K ev c n xs e k = tally_skipped k
    (λ p h. ap (λ (b : Bool). is_cell K p c && b) (any_off_largest (row_boundary K ev c) K.size e) ∙ &&-off (is_cell K p c))

-- the counters after the last row
pub rows_counted : (K : Cells) (ev : List ℕ) (m n : ℕ) (xs : List ℕ) → n ≡ K.size → Tally m (is_bounding_at K ev) n xs → (p : ℕ) → p < m → get_or xs p 0 ≡ bounding_in K (rows K ev) p
unfolding bounding_in
rows_counted K ev m n xs e k p h = k.each p h ∙ ap (λ (i : ℕ). how_many (is_bounding_at K ev p) i) e

-- ---- the differences

-- what a closure that computes h is called on, from place i on
made_at : {F : Type 0} (g : Mut F (ℕ × Unit {0}) ℕ) (f : F) (h : ℕ → ℕ) (xs : List ℕ) → ((i y : ℕ) (q : F) → Called g f (i, tt) y q → (q ≡ f) × (y ≡ h i))
    → (i n : ℕ) → IsFromFnResultFrom g f xs i n → (k : ℕ) → k < n → get_or xs (i + k) 0 ≡ h (i + k)
made_at g f h xs is i zero made k l = absurd (omega arith)
made_at g f h xs is i (suc n) made zero l = rw add-zero (made.2.1 0 ∙ (is i made.1 made.0 made.3).1)
made_at g f h xs is i (suc n) made (suc k) l =
    let same : made.0 ≡ f = (is i made.1 made.0 made.3).0 in
    let later : i + suc k ≡ i + 1 + k = omega arith in
    rw later (made_at g f h xs is (i + 1) n (subst (λ q. IsFromFnResultFrom g q xs (i + 1) n) same made.4) k (omega arith))

pub differences_made : {F : Type 0} (g : Mut F (ℕ × Unit {0}) ℕ) (f : F) (ns rs xs : List ℕ)
    → ((i y : ℕ) (q : F) → Called g f (i, tt) y q → (q ≡ f) × (y ≡ get_or ns i 0 - get_or rs i 0 - get_or rs (i + 1) 0)) → IsFromFnResult g f xs (top + 1) → xs ≡ differences ns rs
unfolding differences
differences_made g f ns rs xs is made =
    let h : ℕ → ℕ = λ q. get_or ns q 0 - get_or rs q 0 - get_or rs (q + 1) 0 in
    ext_get_or 0 xs (listed (top + 1) h) (made.long ∙ sym (length_listed (top + 1) h))
    (λ q l. let inside : q < top + 1 = omega (arith, made.long) in
    let here : 0 + q ≡ q = omega arith in
    subst (λ (i : ℕ). get_or xs i 0 ≡ h i) here (made_at g f h xs is 0 (top + 1) made.each q inside) ∙ sym (get_or_listed (top + 1) h q inside))

-- The additions of a dimension are under its ceiling: for whatever is by the rule, and so for an accepted call.
-- What carries it: at each cell the additions are at most the bounding rows so far. Assumes nothing.
use mathlib.Core.Path.{◌≡◌, sym, ap, subst, ◌∙◌}
use mathlib.Core.Bool.{Bool, true, false, ◌&&◌}
use mathlib.Core.List.{List}
use Prim.Native.Nat.{ℕ, zero, suc, ◌+◌, ◌≤◌, ◌<◌}
use native.Mathlib.Nat.{add-zero}
use native.Mathlib.Omega.{arith}
use borrow.Author.Tests.{eqb-true}
use lib.Dec.{eqb}
use lib.ListN.{get_or}
use Rattle.counting.specs.Counting.{how_many, some_has, pick}
use Rattle.counting.proofs.Cases.{and_both, and_left, and_right}
use Rattle.counting.proofs.Counting.{how_many_yes, how_many_no}
use Rattle.homology.specs.Cells.{Cells, Lawful}
use Rattle.homology.specs.Holes.{boundary}
use Rattle.homology.specs.Evidence.{cells_in, bounding_in}
use Rattle.homology.proofs.Marks.{by_mark, &&-off}
use Rattle.table.specs.Kind.{dimensions}
use Rattle.calls.specs.Calls.{Verdict}
use Rattle.std.specs.declared.result.Result.TheVariants.{Ok}
use Prim.{tt}
use Rattle.complex.specs.Cells.{cells}
use Rattle.complex.proofs.Boundary.{valid_is_lawful}
use Rattle.rows.specs.Rows.{rows}
use Rattle.reducer.specs.Rule.{ByRule, additions_in}
use Rattle.reducer.specs.Reduce.{reduce_verdict, Reduces}
use Rattle.reducer.proofs.Counts.{count_at}
use Rattle.reducer.proofs.Verdicts.{accepted_valid}
use Rattle.ceiling.specs.Ceiling.{ceiling, ceiling_in, UnderCeiling}
use Rattle.ceiling.proofs.Sums.{Enough, enough_first, enough_closed, enough_bounding, enough_more, enough_is_under}
use Rattle.ceiling.proofs.Fewer.{count_at_most}
use Rattle.ceiling.proofs.RowCeiling.{is_in, is_bounding, row_under}

module _ (K : Cells) (lawful : Lawful K) (ev : List ℕ) (adds : ℕ → ℕ) (by : ByRule K ev adds) (p : ℕ) where
  abbrev cells_below : ℕ → ℕ
  cells_below k = how_many (is_in K p) k

  abbrev bounding_below : ℕ → ℕ
  bounding_below k = how_many (is_bounding K ev p) k

  abbrev bounds : ℕ → Bool
  bounds c = some_has (boundary K (rows K ev c)) K.size

  fewer : (k : ℕ) → bounding_below k ≤ cells_below k
  fewer = count_at_most (is_bounding K ev p) (is_in K p) (λ i e. and_left (is_in K p i) (bounds i) e)

  added : (c : ℕ) (b : Bool) → is_in K p c ≡ b → additions_in K adds p (suc c) ≡ additions_in K adds p c + pick b (adds c) 0
  unfolding additions_in
  added c b e = rw e

  -- a cell of another dimension, or a free number
  passed : (c : ℕ) → is_in K p c ≡ false → Enough (additions_in K adds p c) (cells_below c) (bounding_below c) → Enough (additions_in K adds p (suc c)) (cells_below (suc c)) (bounding_below (suc c))
  passed c e so =
      rw (added c false e, how_many_no (is_in K p) c e, how_many_no (is_bounding K ev p) c (ap (λ (b : Bool). b && bounds c) e))
      (subst (λ (a : ℕ). Enough a (cells_below c) (bounding_below c)) (sym (add-zero (additions_in K adds p c))) so)

  -- a live p-cell
  taken : (c : ℕ) → c < K.size → is_in K p c ≡ true → Enough (additions_in K adds p c) (cells_below c) (bounding_below c) → Enough (additions_in K adds p (suc c)) (cells_below (suc c)) (bounding_below (suc c))
  taken c inside e so = by_mark (bounds c)
      (λ q. rw (added c true e, how_many_yes (is_in K p) c e, how_many_yes (is_bounding K ev p) c (and_both _ _ e q))
      (enough_bounding (additions_in K adds p c) (adds c) (cells_below c) (bounding_below c) few (fewer c) so))
      (λ q. rw (added c true e, how_many_yes (is_in K p) c e, how_many_no (is_bounding K ev p) c (ap (λ (b : Bool). is_in K p c && b) q ∙ &&-off (is_in K p c)))
      (enough_closed (additions_in K adds p c) (adds c) (cells_below c) (bounding_below c) few so))
    where
      level : K.dim c ≡ p
      level = eqb-true (K.dim c) p (and_right (K.live c) (eqb (K.dim c) p) e)

      few : adds c ≤ bounding_below c
      few = subst (λ (q : ℕ). adds c ≤ how_many (is_bounding K ev q) c) level (row_under K lawful ev adds by c inside (and_left (K.live c) (eqb (K.dim c) p) e))

  -- over the cells below k
  so_far : (k : ℕ) → k ≤ K.size → Enough (additions_in K adds p k) (cells_below k) (bounding_below k)
  unfolding additions_in how_many
  so_far zero l = enough_first
  so_far (suc c) l = by_mark (is_in K p c)
      (λ e. taken c l e (so_far c (omega arith)))
      (λ e. passed c e (so_far c (omega arith)))

  additions_under : additions_in K adds p K.size ≤ ceiling_in K ev p
  unfolding ceiling_in cells_in bounding_in
  additions_under = enough_is_under (additions_in K adds p K.size) (cells_below K.size) (bounding_below K.size) (fewer K.size) (so_far K.size (omega arith))

  -- known before the rows are: with n live p-cells there are at most n·(n − 1)/2 additions
  additions_before : additions_in K adds p K.size ≤ ceiling (cells_in K p) (cells_in K p)
  unfolding cells_in
  additions_before = enough_is_under (additions_in K adds p K.size) n n (omega arith) (enough_more (additions_in K adds p K.size) n (bounding_below K.size) (fewer K.size) (so_far K.size (omega arith)))
    where
      n : ℕ
      n = cells_below K.size

-- whatever is by the rule is under the ceiling
pub by_rule_under_ceiling : (K : Cells) (ev : List ℕ) (adds : ℕ → ℕ) → Lawful K → ByRule K ev adds → UnderCeiling K ev adds
by_rule_under_ceiling K ev adds lawful by = record { each = additions_under K lawful ev adds by }

-- and under what is known before the rows are
pub by_rule_under_cells : (K : Cells) (ev : List ℕ) (adds : ℕ → ℕ) → Lawful K → ByRule K ev adds → (p : ℕ) → additions_in K adds p K.size ≤ ceiling (cells_in K p) (cells_in K p)
by_rule_under_cells K ev adds lawful by = additions_before K lawful ev adds by

-- an accepted call, with the rows that it leaves
pub accepted_under_ceiling : (t ev a₀ : List ℕ) (r : Verdict) (ev' a : List ℕ) → Reduces t ev a₀ r ev' a → reduce_verdict t ev ≡ Ok tt → (p : ℕ) → p < dimensions → get_or a p 0 ≤ ceiling_in (cells t) ev' p
accepted_under_ceiling t ev a₀ r ev' a call accepted p low =
    let made = call.accepted accepted in
    let counted : get_or a p 0 ≡ additions_in (cells t) made.adds p (cells t).size =
    ap (λ (l : List ℕ). get_or l p 0) made.counted ∙ count_at (λ q. additions_in (cells t) made.adds q (cells t).size) p low in
    rw counted ((by_rule_under_ceiling (cells t) ev' made.adds (valid_is_lawful t (accepted_valid t ev accepted)) made.by_rule).each p)

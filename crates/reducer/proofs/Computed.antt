-- The rule as functions that compute: the evidence row after row, each from the cell alone, with the earlier row found by a search;
-- and that a row so made is the rule's.
-- The measure: the height of the boundary of the row at work, which falls with each addition; so as much fuel as there are cells is enough.
-- Assumes nothing.
use mathlib.Core.Path.{◌≡◌, refl, sym, ap, ap₂, subst, ◌∙◌}
use mathlib.Core.Bool.{false}
use mathlib.Core.List.{List, [], ◌∷◌, ◌++◌}
use Prim.Native.Nat.{ℕ, zero, suc, ◌*◌, ◌≤◌, ◌<◌}
use native.Mathlib.Omega.{arith}
use borrow.Author.Tests.{eq-eqb, eqb-true}
use lib.Dec.{eqb}
use lib.ListN.{length, get_or}
use Rattle.homology.specs.Cells.{Cells, Lawful, ◌⊻◌}
use Rattle.homology.specs.Holes.{boundary}
use Rattle.homology.proofs.Marks.{by_order, clash}
use Rattle.homology.proofs.Chains.{boundary_below}
use Rattle.homology.proofs.Tops.{Below, member_below, largest_unique}
use Rattle.homology.proofs.LargestBelow.{largest_found, largest_none, largest_at_most}
use Rattle.bitset.specs.Bits.{member, sum_of}
use Rattle.bitset.proofs.Marks.{length_sum}
use Rattle.bitset.proofs.RowLaws.{row_fits, length_row}
use Rattle.counting.specs.Counting.{pick, largest_below}
use Rattle.rows.specs.Rows.{row_width, row_of}
use Rattle.rows.proofs.Boundaries.{boundary_of_sum}
use Rattle.reducer.specs.Rule.{LargestOf, Additions, stop, add, alone, empty_row}
use Rattle.reducer.proofs.Meeting.{alone_width}

-- ---- the functions

-- the largest cell of the boundary of row x, and one more; 0 where the boundary is empty
unfoldable pub boundary_height : Cells → List ℕ → ℕ
boundary_height K x = largest_below (boundary K (member x)) K.size

-- the row below c whose boundary has height h, and one more; 0 where there is none, and for the empty boundary
unfoldable pub owner : List ℕ → ℕ → ℕ → ℕ
owner heights c zero = 0
owner heights c (suc m) = largest_below (λ b. eqb (get_or heights b 0) (suc m)) c

-- additions made, and the row that they lead to
pub record Outcome : Type 0 where
  pub made : ℕ
  pub row : List ℕ

-- where the search found no row, x stays; where it found row b, one addition is made, and more
unfoldable pub after_search : List ℕ → (ℕ → Outcome) → ℕ → Outcome
after_search x more zero = record { made = 0; row = x }
after_search x more (suc b) = record { made = suc (more b).made; row = (more b).row }

-- at most fuel additions to row x of cell c
unfoldable pub add_rows : Cells → List ℕ → List ℕ → ℕ → ℕ → List ℕ → Outcome
add_rows K ev heights c zero x = record { made = 0; row = x }
add_rows K ev heights c (suc fuel) x =
    after_search x (λ b. add_rows K ev heights c fuel (sum_of x (row_of K ev b))) (owner heights c (boundary_height K x))

-- the rows so far, one after another; the heights of their boundaries, and their additions
pub record Done : Type 0 where
  pub evidence : List ℕ
  pub heights : List ℕ
  pub additions : List ℕ

unfoldable pub next_row : Cells → ℕ → Done → Outcome
next_row K c d = pick (K.live c) (add_rows K d.evidence d.heights c K.size (alone K c)) (record { made = 0; row = empty_row K })

unfoldable pub with_row : Cells → Done → Outcome → Done
with_row K d r = record {
  evidence = d.evidence ++ r.row;
  heights = d.heights ++ (boundary_height K r.row ∷ []);
  additions = d.additions ++ (r.made ∷ []);
}

-- the first c rows
unfoldable pub rows_below : Cells → ℕ → Done
rows_below K zero = record { evidence = []; heights = []; additions = [] }
rows_below K (suc c) = with_row K (rows_below K c) (next_row K c (rows_below K c))

unfoldable pub reduced_evidence : Cells → List ℕ
reduced_evidence K = (rows_below K K.size).evidence

unfoldable pub reduced_additions : Cells → ℕ → ℕ
reduced_additions K c = get_or (rows_below K K.size).additions c 0

-- ---- the height of a boundary is its largest cell

module _ (K : Cells) (lawful : Lawful K) where
  height_is_largest : (x : List ℕ) (m : ℕ) → boundary_height K x ≡ suc m → LargestOf K x m
  unfolding boundary_height
  height_is_largest x m e =
      let r = largest_found (boundary K (member x)) K.size m e in
      record {
        member = r.1;
        above = λ s l. by_order s K.size (r.2 s l) (λ q. past s (omega arith)) (λ q. past s (omega arith));
      }
    where
      past : Below K.size (boundary K (member x))
      past = boundary_below K lawful (member x)

  pub largest_is_height : (x : List ℕ) (m : ℕ) → LargestOf K x m → boundary_height K x ≡ suc m
  unfolding boundary_height
  largest_is_height x m g = go (boundary_height K x) refl
    where
      inside : m < K.size
      inside = member_below K.size (boundary K (member x)) (boundary_below K lawful (member x)) m g.member

      go : (h : ℕ) → boundary_height K x ≡ h → h ≡ suc m
      go zero e = clash g.member (largest_none (boundary K (member x)) K.size e m inside)
      go (suc k) e = ap suc (largest_unique (height_is_largest x k e) g)

  height_inside : (x : List ℕ) → boundary_height K x ≤ K.size
  unfolding boundary_height
  height_inside x = largest_at_most (boundary K (member x)) K.size K.size (boundary_below K lawful (member x))

  -- rows whose boundaries have the same largest cell
  pub height_of_sum : (x y : List ℕ) (m : ℕ) → length x ≡ length y → LargestOf K x m → LargestOf K y m → boundary_height K (sum_of x y) ≤ m
  unfolding boundary_height
  height_of_sum x y m e g h = largest_at_most (boundary K (member (sum_of x y))) K.size m (λ s l.
      boundary_of_sum K x y e s
      ∙ by_order s m (λ k. absurd (omega arith))
      (λ q. subst (λ (u : ℕ). boundary K (member x) u ⊻ boundary K (member y) u ≡ false) (sym q) (ap₂ ◌⊻◌ g.member h.member))
      (λ k. ap₂ ◌⊻◌ (g.above s k) (h.above s k)))

-- ---- one row

-- the first c rows, with their heights
pub record WithHeights (K : Cells) (ev heights : List ℕ) (c : ℕ) : Type 0 where
  pub long : length ev ≡ c * row_width K
  pub each : (b : ℕ) → b < c → get_or heights b 0 ≡ boundary_height K (row_of K ev b)

module _ (K : Cells) (lawful : Lawful K) (ev heights : List ℕ) (c : ℕ) (so : WithHeights K ev heights c) where
  earlier_width : (b : ℕ) → b < c → length (row_of K ev b) ≡ row_width K
  unfolding row_of
  earlier_width b l = length_row (row_width K) ev b (row_fits (row_width K) ev c b so.long l)

  -- no owner: the rule stops
  no_owner : (x : List ℕ) (h : ℕ) → boundary_height K x ≡ h → owner heights c h ≡ 0 → Additions K ev c x 0 x
  unfolding owner
  no_owner x zero e none = stop (λ b m l g k. let high : boundary_height K x ≡ suc m = largest_is_height K lawful x m g in omega arith)
  no_owner x (suc i) e none = stop (λ b m l g k. clash
      (eq-eqb (get_or heights b 0) (suc i) (so.each b l ∙ largest_is_height K lawful (row_of K ev b) m k ∙ sym (largest_is_height K lawful x m g) ∙ e))
      (largest_none (λ a. eqb (get_or heights a 0) (suc i)) c none b l))

  -- an owner: an earlier row with the same largest cell
  has_owner : (h b : ℕ) → owner heights c h ≡ suc b → (m : ℕ) × (h ≡ suc m) × (b < c) × LargestOf K (row_of K ev b) m
  unfolding owner
  has_owner zero b e = absurd (omega arith)
  has_owner (suc m) b e =
      let r = largest_found (λ a. eqb (get_or heights a 0) (suc m)) c b e in
      (m, refl, r.0, height_is_largest K lawful (row_of K ev b) m (sym (so.each b r.0) ∙ eqb-true (get_or heights b 0) (suc m) r.1))

  -- after the search, where the turns that follow are known to be the rule's
  one_turn : (fuel : ℕ) (x : List ℕ) → length x ≡ row_width K → boundary_height K x ≤ suc fuel → (more : ℕ → Outcome)
      → ((b : ℕ) → length (sum_of x (row_of K ev b)) ≡ row_width K → boundary_height K (sum_of x (row_of K ev b)) ≤ fuel → Additions K ev c (sum_of x (row_of K ev b)) (more b).made (more b).row)
      → (o : ℕ) → owner heights c (boundary_height K x) ≡ o
      → Additions K ev c x (after_search x more o).made (after_search x more o).row
  unfolding after_search
  one_turn fuel x wide low more rest zero e = no_owner x (boundary_height K x) refl e
  one_turn fuel x wide low more rest (suc b) e =
      let r = has_owner (boundary_height K x) b e in
      let of-x : LargestOf K x r.0 = height_is_largest K lawful x r.0 r.1 in
      let same : length x ≡ length (row_of K ev b) = wide ∙ sym (earlier_width b r.2) in
      let falls : boundary_height K (sum_of x (row_of K ev b)) ≤ r.0 = height_of_sum K lawful x (row_of K ev b) r.0 same of-x r.3 in
      add b r.0 r.2 of-x r.3 (rest b (length_sum x (row_of K ev b) ∙ wide) (omega (arith, r.1)))

  turns_by_rule : (fuel : ℕ) (x : List ℕ) → length x ≡ row_width K → boundary_height K x ≤ fuel → Additions K ev c x (add_rows K ev heights c fuel x).made (add_rows K ev heights c fuel x).row
  unfolding add_rows owner
  turns_by_rule zero x wide low = no_owner x 0 (omega arith) refl
  turns_by_rule (suc fuel) x wide low = one_turn fuel x wide low
      (λ b. add_rows K ev heights c fuel (sum_of x (row_of K ev b)))
      (λ b. turns_by_rule fuel (sum_of x (row_of K ev b)))
      (owner heights c (boundary_height K x))
      refl

  pub row_by_rule : Additions K ev c (alone K c) (add_rows K ev heights c K.size (alone K c)).made (add_rows K ev heights c K.size (alone K c)).row
  row_by_rule = turns_by_rule K.size (alone K c) (alone_width K c) (height_inside K lawful (alone K c))

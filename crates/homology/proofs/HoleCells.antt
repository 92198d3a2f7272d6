-- The cells that stand for holes: live p-cells whose row is closed, and that are not the largest cell of the boundary of a row one
-- dimension up. Their number is n_p − r_p − r_(p+1). What carries it: rows one dimension up that bound, and the largest cells
-- of their boundaries, are as many, by rule B; and such a largest cell has a closed row, being the largest cell of a cycle.
-- Assumes nothing.
use mathlib.Core.Path.{◌≡◌}
use mathlib.Core.Bool.{Bool, true, not, ◌&&◌}
use mathlib.Core.Logic.{◌⊎◌, inl, inr}
use Prim.Native.Nat.{ℕ, suc, ◌+◌, ◌<◌}
use native.Mathlib.Omega.{arith}
use Rattle.counting.proofs.Cases.{and_both, and_left, and_right}
use Rattle.counting.specs.Counting.{how_many, some_has}
use Rattle.counting.proofs.Counting.{some_has_at, some_has_none, some_has_one}
use Rattle.homology.specs.Cells.{Cells, Lawful}
use Rattle.homology.specs.Holes.{Chain, boundary, IsCycle}
use Rattle.homology.specs.Evidence.{Rows, IsLargest, RuleB, Meets, cells_in, bounding_in}
use Rattle.homology.proofs.Marks.{by_order, clash, on_of_off}
use Rattle.homology.proofs.Counting.{count_split, count_inject}
use Rattle.homology.proofs.Chains.{boundary_below, boundary_closed}
use Rattle.homology.proofs.Tops.{Empty, largest, largest_unique, is_top, top_largest, largest_top}
use Rattle.homology.proofs.ChainKinds.{is_cell, chain_cell, row_chain, cycle_top}

-- row c has a non-empty boundary
abbrev pub is_bounding : Cells → Rows → ℕ → Bool
is_bounding K rows c = some_has (boundary K (rows c)) K.size

-- a live p-cell whose row is closed
abbrev pub is_closed : Cells → Rows → ℕ → ℕ → Bool
is_closed K rows p c = is_cell K p c && not (is_bounding K rows c)

-- the largest cell of the boundary of a (p+1)-cell's row
unfoldable pub is_filled : Cells → Rows → ℕ → ℕ → Bool
is_filled K rows p t = some_has (λ c. is_cell K (suc p) c && is_top K.size (boundary K (rows c)) t) K.size

abbrev pub is_hole : Cells → Rows → ℕ → ℕ → Bool
is_hole K rows p c = is_closed K rows p c && not (is_filled K rows p c)

pub closed_cell : (K : Cells) (rows : Rows) (p c : ℕ) → is_cell K p c ≡ true → Empty (boundary K (rows c)) → is_closed K rows p c ≡ true
closed_cell K rows p c cell h = and_both _ _ cell (on_of_off (some_has_none (boundary K (rows c)) K.size (λ k l. h k)))

module _ (K : Cells) (law : Lawful K) (rows : Rows) where
  pub filled_row : (p t : ℕ) → is_filled K rows p t ≡ true → (c : ℕ) × (c < K.size) × (is_cell K (suc p) c ≡ true) × IsLargest (boundary K (rows c)) t
  unfolding is_filled
  filled_row p t e =
      let r = some_has_one (λ c. is_cell K (suc p) c && is_top K.size (boundary K (rows c)) t) K.size e in
      let x = boundary K (rows r.0) in (
        r.0,
        r.1,
        and_left (is_cell K (suc p) r.0) (is_top K.size x t) r.2,
        top_largest K.size x t (boundary_below K law (rows r.0)) (and_right (is_cell K (suc p) r.0) (is_top K.size x t) r.2),
      )

  pub row_filled : (p t c : ℕ) → t < K.size → c < K.size → is_cell K (suc p) c ≡ true → IsLargest (boundary K (rows c)) t → is_filled K rows p t ≡ true
  unfolding is_filled
  row_filled p t c l g cell h = some_has_at (λ s. is_cell K (suc p) s && is_top K.size (boundary K (rows s)) t) K.size c g
      (and_both _ _ cell (largest_top K.size (boundary K (rows c)) t l h))

module _ (K : Cells) (law : Lawful K) (rows : Rows) (meets : Meets K rows) (p : ℕ) where
  -- c is a row's number, and t the largest cell of the row's boundary
  abbrev Fills : ℕ → ℕ → Type 0
  Fills c t = (c < K.size) × IsLargest (boundary K (rows c)) t

  fills_apart : (c b t : ℕ) → Fills c t → Fills b t → c ≡ b
  unfolding RuleB
  fills_apart c b t h g = by_order c b
      (λ l. absurd (meets.rule_b b g.0 c t l h.1 g.1))
      (λ e. e)
      (λ l. absurd (meets.rule_b c h.0 b t l g.1 h.1))

  abbrev is_lid : ℕ → Bool
  is_lid c = is_cell K (suc p) c && is_bounding K rows c

  abbrev is_rim : ℕ → Bool
  is_rim t = is_closed K rows p t && is_filled K rows p t

  rim_of_lid : (c : ℕ) → c < K.size → is_lid c ≡ true → (t : ℕ) × (t < K.size) × (is_rim t ≡ true) × Fills c t
  rim_of_lid c l e = go (largest K.size x (boundary_below K law (rows c)))
    where
      x : Chain
      x = boundary K (rows c)

      cell : is_cell K (suc p) c ≡ true
      cell = and_left (is_cell K (suc p) c) (is_bounding K rows c) e

      cyc : IsCycle K p x
      cyc = boundary_closed K law (row_chain K rows meets (suc p) c l cell)

      go : Empty x ⊎ ((t : ℕ) × IsLargest x t) → (t : ℕ) × (t < K.size) × (is_rim t ≡ true) × Fills c t
      go (inl h) = clash (and_right (is_cell K (suc p) c) (is_bounding K rows c) e) (some_has_none x K.size (λ k l. h k))
      go (inr r) = let t = r.0 in
          let below : t < K.size = cyc.chain.below t r.1.member in (
            t,
            below,
            and_both _ _ (closed_cell K rows p t (chain_cell cyc.chain t r.1.member) (cycle_top K law rows meets p x t cyc r.1))
                (row_filled K law rows p t c below l cell r.1),
            (l, r.1),
          )

  lid_of_rim : (t : ℕ) → t < K.size → is_rim t ≡ true → (c : ℕ) × (c < K.size) × (is_lid c ≡ true) × Fills c t
  lid_of_rim t l e = let r = filled_row K law rows p t (and_right (is_closed K rows p t) (is_filled K rows p t) e) in
      (r.0, r.1, and_both _ _ r.2 (some_has_at (boundary K (rows r.0)) K.size t l r.3.member), (r.1, r.3))

  rims_are_lids : how_many is_rim K.size ≡ bounding_in K rows (suc p)
  unfolding bounding_in
  rims_are_lids = omega (
    arith,
    count_inject Fills fills_apart K.size K.size is_lid is_rim rim_of_lid,
    count_inject (λ t c. Fills c t) (λ t s c h g. largest_unique h.1 g.1) K.size K.size is_rim is_lid lid_of_rim,
  )

  pub cells_add_up : cells_in K p ≡ bounding_in K rows p + (bounding_in K rows (suc p) + how_many (is_hole K rows p) K.size)
  unfolding cells_in bounding_in
  cells_add_up = omega (
    arith,
    rims_are_lids,
    count_split K.size (is_cell K p) (is_bounding K rows),
    count_split K.size (is_closed K rows p) (is_filled K rows p),
  )

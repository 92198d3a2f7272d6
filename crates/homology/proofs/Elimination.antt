-- No independent list of cycles is longer than the number of hole cells. The invariant: cycles with no cell from m on, no non-empty
-- selection of which sums to a boundary. The measure: m. At each cell one of three things clears it: a hole cell costs one cycle, which is added
-- to the others; a filled cell is cleared by adding the boundary that fills it; any other cell is in none of the cycles.
-- Assumes nothing.
use mathlib.Core.Path.{◌≡◌, refl, sym, ap, ap₂, ◌∙◌}
use mathlib.Core.Bool.{Bool, true, false, ◌&&◌}
use mathlib.Core.List.{List, [], ◌∷◌, map}
use Prim.Native.Nat.{ℕ, zero, suc, ◌≤◌}
use native.Mathlib.Omega.{arith}
use lib.ListN.{length, replicate, length-replicate, length-map}
use Rattle.counting.proofs.Cases.{and_both, not_true_false}
use Rattle.counting.specs.Counting.{how_many}
use Rattle.counting.proofs.Counting.{how_many_no, how_many_yes}
use Rattle.homology.specs.Cells.{Cells, Lawful, ◌⊻◌}
use Rattle.homology.specs.Holes.{Chain, none, picked, chosen, boundary, IsCycle, IsBoundary, Independent}
use Rattle.homology.specs.Evidence.{Rows, Meets}
use Rattle.homology.proofs.Marks.{by_mark, clash, on_of_off, &&-off, ⊻-back}
use Rattle.homology.proofs.Chains.{boundary_none, boundary_closed, none_chain, sum_cycle, sum_boundary, taken_boundary}
use Rattle.homology.proofs.Tops.{Below, Empty, below_less}
use Rattle.homology.proofs.ChainKinds.{chain_cell, chain_below, row_chain, cycle_top}
use Rattle.homology.proofs.HoleCells.{is_filled, is_hole, closed_cell, filled_row}
use Rattle.homology.proofs.Selections.{Every, at_every, every_map, every_so, picked_empty, cleared, cleared_off, picked_cleared, pivot, Pivoted, pivoted_length, pivoted_every, pivoted_picked}

-- a p-cycle with no cell from m on
abbrev Short : Cells → ℕ → ℕ → Chain → Type 0
Short K p m x = IsCycle K p x × Below m x

abbrev Apart : Cells → ℕ → List Chain → Type 0
Apart K p xs = (s : List Bool) → length s ≡ length xs → chosen s ≡ true → IsBoundary K p (picked s xs) → ⊥

boundary_cong : {K : Cells} {p : ℕ} {x y : Chain} → ((c : ℕ) → x c ≡ y c) → IsBoundary K p x → IsBoundary K p y
boundary_cong e h = record { filling = h.filling; chain = h.chain; bounds = λ t. h.bounds t ∙ e t }

empty_is_boundary : {K : Cells} {p : ℕ} {x : Chain} → Empty x → IsBoundary K p x
empty_is_boundary {K} h = record { filling = none; chain = none_chain; bounds = λ t. boundary_none K t ∙ sym (h t) }

taken_cycle : {K : Cells} {p : ℕ} {x : Chain} (b : Bool) → IsCycle K p x → IsCycle K p (λ c. b && x c)
taken_cycle true h = h
taken_cycle {K} false h = record { chain = none_chain; closed = boundary_none K }

cleared_short : (K : Cells) (p m : ℕ) (z x : Chain) → Short K p (suc m) z → z m ≡ true → Short K p (suc m) x → Short K p m (cleared m z x)
cleared_short K p m z x h e g = (
  sum_cycle g.0 (taken_cycle (x m) h.0),
  below_less m (cleared m z x) (λ s l. ap₂ ◌⊻◌ (g.1 s l) (ap (λ b. x m && b) (h.1 s l) ∙ &&-off (x m))) (cleared_off m z x e),
)

-- clearing by a boundary changes no sum by more than a boundary
cleared_apart : (K : Cells) (p m : ℕ) (z : Chain) (xs : List Chain) → IsBoundary K p z → Apart K p xs → Apart K p (map (cleared m z) xs)
cleared_apart K p m z xs bz h s l ch b = h s (l ∙ length-map xs (cleared m z)) ch
    (boundary_cong (λ c. ap (λ a. a ⊻ (picked s xs m && z c)) (picked_cleared m z s xs c) ∙ ⊻-back (picked s xs c) (picked s xs m && z c))
    (sum_boundary b (taken_boundary (picked s xs m) bz)))

pivoted_apart : (K : Cells) (p : ℕ) {m : ℕ} {xs ys : List Chain} → Pivoted m xs ys → Apart K p xs → Apart K p ys
pivoted_apart K p v h s l ch b = let r = pivoted_picked v s l in h r.0 r.1 (r.2 ch) (boundary_cong r.3 b)

-- chains with no cell at all: every selection sums to a boundary, so there are none
no_empty : (K : Cells) (p : ℕ) (xs : List Chain) → Every Empty xs → Apart K p xs → length xs ≤ 0
unfolding chosen
no_empty K p [] a h = omega arith
no_empty K p (x ∷ xs) a h = absurd (h (replicate (suc (length xs)) true) (length-replicate (suc (length xs)) true) refl
    (empty_is_boundary (picked_empty (replicate (suc (length xs)) true) (x ∷ xs) a)))

module _ (K : Cells) (law : Lawful K) (rows : Rows) (meets : Meets K rows) (p : ℕ) where
  -- the boundary that fills m
  filler : (m : ℕ) → is_filled K rows p m ≡ true → (z : Chain) × (z m ≡ true) × IsBoundary K p z × Short K p (suc m) z
  filler m e = let r = filled_row K law rows p m e in
      let ch = row_chain K rows meets (suc p) r.0 r.1 r.2 in (
        boundary K (rows r.0),
        r.3.member,
        record { filling = rows r.0; chain = ch; bounds = λ t. refl },
        (boundary_closed K law ch, r.3.above),
      )

  -- a cell that is neither a hole cell nor filled is the largest cell of no cycle
  never_top : (m : ℕ) → is_hole K rows p m ≡ false → is_filled K rows p m ≡ false → (x : Chain) → Short K p (suc m) x → Short K p m x
  never_top m e f x h = (
    h.0,
    below_less m x h.1 (not_true_false (x m) (λ g. clash
        (and_both _ _ (closed_cell K rows p m (chain_cell h.0.chain m g)
        (cycle_top K law rows meets p x m h.0 (record { member = g; above = h.1 }))) (on_of_off f)) e)),
  )

  at_most : (m : ℕ) (xs : List Chain) → Every (Short K p m) xs → Apart K p xs → length xs ≤ how_many (is_hole K rows p) m
  unfolding how_many
  at_most zero xs a h = no_empty K p xs (every_so (Short K p 0) Empty (λ x g s. g.1 s (omega arith)) xs a) h
  at_most (suc m) xs a h = by_mark (is_hole K rows p m)
      (λ e. let v = pivot m xs in
      let less = pivoted_every (Short K p (suc m)) (Short K p m) (cleared_short K p m)
      (λ x g off. (g.0, below_less m x g.1 off)) v.1 a in
      omega (arith, how_many_yes (is_hole K rows p) m e, pivoted_length v.1, at_most m v.0 less (pivoted_apart K p v.1 h)))
      (λ e. by_mark (is_filled K rows p m)
      (λ f. let z = filler m f in
      omega (
        arith,
        how_many_no (is_hole K rows p) m e,
        length-map xs (cleared m z.0),
        at_most m (map (cleared m z.0) xs)
            (every_map (Short K p (suc m)) (Short K p m) (cleared m z.0) (λ x g. cleared_short K p m z.0 x z.3 z.1 g) xs a)
            (cleared_apart K p m z.0 xs z.2 h),
      ))
      (λ f. omega (
        arith,
        how_many_no (is_hole K rows p) m e,
        at_most m xs (every_so (Short K p (suc m)) (Short K p m) (never_top m e f) xs a) h,
      )))

  pub no_more_holes : (xs : List Chain) → Independent K p xs → length xs ≤ how_many (is_hole K rows p) K.size
  no_more_holes xs h = at_most K.size xs
      (every_so (IsCycle K p) (Short K p K.size) (λ x g. (g, chain_below g.chain)) xs (at_every (IsCycle K p) xs h.cycles))
      h.apart

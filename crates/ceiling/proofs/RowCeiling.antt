-- The additions to one row are at most the earlier bounding rows of its dimension.
-- What carries it: each addition takes a row whose boundary has the present largest cell, and leaves a boundary below that cell; so the
-- rows that can still be added have boundaries lower than this one's, and it is not among them. Assumes nothing.
use mathlib.Core.Path.{◌≡◌, sym, ◌∙◌}
use mathlib.Core.Bool.{Bool, true, ◌&&◌}
use mathlib.Core.List.{List}
use Prim.Native.Nat.{ℕ, suc, ◌≤◌, ◌<◌}
use native.Mathlib.Omega.{arith}
use borrow.Author.Tests.{eq-eqb, le-leb, leb-true}
use lib.Dec.{eqb, leb}
use Rattle.counting.specs.Counting.{how_many, some_has}
use Rattle.counting.proofs.Cases.{and_both, and_left, and_right, not_true_false}
use Rattle.counting.proofs.Counting.{some_has_at}
use Rattle.homology.specs.Cells.{Cells, Lawful}
use Rattle.homology.specs.Holes.{boundary}
use Rattle.homology.proofs.Marks.{by_mark}
use Rattle.homology.proofs.Chains.{boundary_below}
use Rattle.homology.proofs.Tops.{member_below}
use Rattle.rows.specs.Rows.{row_of, rows}
use Rattle.bitset.specs.Bits.{member}
use Rattle.reducer.specs.Rule.{LargestOf, Additions, stop, add, alone, ByRule}
use Rattle.reducer.proofs.Meeting.{OnTheWay, first_on_the_way, boundary_level, sum_on_the_way, live_rows, empty_row_has_no_largest}
use Rattle.reducer.proofs.Computed.{boundary_height, largest_is_height, height_of_sum}
use Rattle.ceiling.proofs.Fewer.{count_at_most, count_fewer}

-- a live p-cell; and one whose row has a non-empty boundary
abbrev pub is_in : Cells → ℕ → ℕ → Bool
is_in K p b = K.live b && eqb (K.dim b) p

abbrev pub is_bounding : Cells → List ℕ → ℕ → ℕ → Bool
is_bounding K ev p b = is_in K p b && some_has (boundary K (rows K ev b)) K.size

-- and lies below k
abbrev is_low : Cells → List ℕ → ℕ → ℕ → ℕ → Bool
is_low K ev p k b = is_bounding K ev p b && leb (boundary_height K (row_of K ev b)) k

module _ (K : Cells) (lawful : Lawful K) (ev : List ℕ) (adds : ℕ → ℕ) (by : ByRule K ev adds) where
  -- a row whose boundary has a largest cell
  on_the_way : (b m : ℕ) → b < K.size → LargestOf K (row_of K ev b) m → (K.live b ≡ true) × OnTheWay K b (row_of K ev b)
  on_the_way b m inside top = by_mark (K.live b)
      (λ e. (e, live_rows K lawful ev adds by (suc b) b (omega arith) inside e))
      (λ e. absurd (empty_row_has_no_largest K (row_of K ev b) m ((by.each b inside).free_row e) top))

  bounding : (p b m : ℕ) → K.live b ≡ true → K.dim b ≡ p → LargestOf K (row_of K ev b) m → is_bounding K ev p b ≡ true
  unfolding rows
  bounding p b m living level top = and_both _ _
      (and_both _ _ living (eq-eqb (K.dim b) p level))
      (some_has_at (boundary K (member (row_of K ev b))) K.size m (member_below K.size (boundary K (member (row_of K ev b))) (boundary_below K lawful (member (row_of K ev b))) m top.member) top.member)

  -- from a row x of cell c whose boundary lies below k
  additions_few : (c : ℕ) → c < K.size → {x y : List ℕ} {n : ℕ} → Additions K ev c x n y → (k : ℕ) → OnTheWay K c x → boundary_height K x ≤ k → n ≤ how_many (is_low K ev (K.dim c) k) c
  additions_few c inside (stop none) k way low = omega arith
  additions_few c inside (add {x} {y} {n} b m l g h rest) k way low =
      let p : ℕ = K.dim c in
      let r : List ℕ = row_of K ev b in
      let earlier = on_the_way b m (omega arith) h in
      let high : boundary_height K r ≡ suc m = largest_is_height K lawful r m h in
      let most : suc m ≤ k = omega (arith, largest_is_height K lawful x m g) in
      let level : K.dim b ≡ p = boundary_level K lawful b r m earlier.1 h.member ∙ sym (boundary_level K lawful c x m way g.member) in
      let counted : is_bounding K ev p b ≡ true = bounding p b m earlier.0 level h in
      let more : n ≤ how_many (is_low K ev p m) c = additions_few c inside rest m
      (sum_on_the_way K lawful c b m x r l g h way earlier.1)
      (height_of_sum K lawful x r m (way.wide ∙ sym earlier.1.wide) g h) in
      omega (
        arith,
        more,
        count_fewer (is_low K ev p m) (is_low K ev p k)
            (λ i e. lower p m k i (omega arith) e)
            c b l
            (not_true_false (is_low K ev p m b) (λ e. let z : boundary_height K r ≤ m = leb-true (boundary_height K r) m (and_right (is_bounding K ev p b) (leb (boundary_height K r) m) e) in omega arith))
            (and_both _ _ counted (le-leb (boundary_height K r) k (omega arith))),
      )
    where
      lower : (p m k i : ℕ) → m ≤ k → is_low K ev p m i ≡ true → is_low K ev p k i ≡ true
      lower p m k i s e =
          let z : boundary_height K (row_of K ev i) ≤ m = leb-true (boundary_height K (row_of K ev i)) m (and_right (is_bounding K ev p i) (leb (boundary_height K (row_of K ev i)) m) e) in
          and_both _ _ (and_left (is_bounding K ev p i) (leb (boundary_height K (row_of K ev i)) m) e) (le-leb (boundary_height K (row_of K ev i)) k (omega arith))

  pub row_under : (c : ℕ) → c < K.size → K.live c ≡ true → adds c ≤ how_many (is_bounding K ev (K.dim c)) c
  row_under c inside living =
      let k : ℕ = boundary_height K (alone K c) in
      omega (
        arith,
        additions_few c inside ((by.each c inside).live_row living) k (first_on_the_way K c inside living) (omega arith),
        count_at_most (is_low K ev (K.dim c) k) (is_bounding K ev (K.dim c))
            (λ i e. and_left (is_bounding K ev (K.dim c) i) (leb (boundary_height K (row_of K ev i)) k) e)
            c,
      )

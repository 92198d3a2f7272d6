-- The additions to row c, as the code makes them: whatever the rule gives from where the row stands, it gives from the start, by n
-- additions more. The measure: the height of the row's boundary, which falls with each addition; so there are at most as many as a
-- row has bits. Assumes nothing.
use mathlib.Core.Path.{◌≡◌, refl, sym, ap, ap₂, subst, ◌∙◌}
use mathlib.Core.List.{List}
use Prim.Native.Nat.{ℕ, suc, ◌+◌, ◌*◌, ◌^◌, ◌≤◌, ◌<◌}
use native.Mathlib.Omega.{arith}
use lib.ListN.{length, set, length-set}
use Rattle.homology.specs.Cells.{Cells}
use Rattle.bitset.specs.Bits.{bits, mark, sum_of, IsLargestIn}
use Rattle.bitset.specs.Rows.{row_at, RowAdded, RowKept}
use Rattle.bitset.proofs.Marks.{length_sum}
use Rattle.bitset.proofs.RowLaws.{row_before, length_row}
use Rattle.table.specs.Kind.{capacity}
use Rattle.rows.specs.Rows.{row_width, row_of}
use Rattle.rows.proofs.RowWords.{row_width_fits, length_row_of}
use Rattle.reducer.specs.Rule.{Additions, stop, add, LargestOf, alone}
use Rattle.reducer.specs.Work.{Owners, owner_of, Owned, Bounds, Begun, Roomy, Finished}
use Rattle.std.specs.Prelude.{None, Some}
use Rattle.reducer.proofs.RowWords.{row_at_lem, row_room, kept_row, kept_others}
use Rattle.reducer.proofs.LowerRows.{additions_stay}
use Rattle.reducer.proofs.Owners.{owned_stays, owned_more, free_alone, owned_kept}
use Rattle.reducer.proofs.Heights.{height, height_inside, height_falls}
use Rattle.reducer.proofs.Boundaries.{largest_of, of_largest, bounds_add}

-- after n additions to row c, which started in ev₁, w words wide; x is its boundary
pub record Going (K : Cells) (c w : ℕ) (ev₁ x ev kept : List ℕ) (owner : Owners) (n : ℕ) : Type 0 where
  pub room : K.size ≤ capacity
  pub inside : c < K.size
  pub width : w ≡ row_width K
  pub start : row_of K ev₁ c ≡ alone K c
  pub roomy : Roomy K ev kept owner
  pub owned : Owned K ev kept owner c
  pub others : (b : ℕ) → (b ≡ c → ⊥) → row_of K ev b ≡ row_of K ev₁ b
  pub long : length x ≡ w
  pub bounds : Bounds K x (row_of K ev c)
  pub rest : (m : ℕ) (y : List ℕ) → Additions K ev₁ c (row_of K ev c) m y → Additions K ev₁ c (row_of K ev₁ c) (n + m) y
  pub few : n + height x ≤ bits * w

less_apart : (b c : ℕ) → b < c → b ≡ c → ⊥
less_apart b c l e = omega arith

pub going_first : {K : Cells} {c w : ℕ} {x ev kept : List ℕ} {owner : Owners} → K.size ≤ capacity → c < K.size → w ≡ row_width K → Begun K c x ev kept owner → Going K c w ev x ev kept owner 0
going_first {K} {c} {x = x} {ev} room inside e begun = record {
  room = room;
  inside = inside;
  width = e;
  start = begun.row;
  roomy = begun.roomy;
  owned = begun.owned;
  others = λ b h. refl;
  long = begun.long ∙ sym e;
  bounds = begun.bounds;
  rest = λ m y h. let q : m ≡ 0 + m = omega arith in subst (λ (n : ℕ). Additions K ev c (row_of K ev c) n y) q h;
  few = omega (arith, height_inside x, begun.long);
}

module _ {K : Cells} {c w : ℕ} {ev₁ x ev kept : List ℕ} {owner : Owners} {n : ℕ} (so : Going K c w ev₁ x ev kept owner n) where
  pub largest_asks : 64 * length x ≤ 2 ^ 64
  largest_asks = omega (arith, so.long, so.width, row_width_fits K so.room)

  -- where the rule stops, with the boundaries and owners as they are left
  ends : (kept' : List ℕ) (owner' : Owners) → length kept' ≡ length kept → length owner' ≡ length owner
      → ((b m : ℕ) → b < c → LargestOf K (row_of K ev c) m → LargestOf K (row_of K ev b) m → ⊥) → Owned K ev kept' owner' (suc c) → Finished K c ev₁ ev kept' owner' n
  ends kept' owner' kept-long owner-long none owned = record {
    roomy = record { evidence = so.roomy.evidence; boundaries = omega (arith, so.roomy.boundaries); owners = omega (arith, so.roomy.owners) };
    row = subst (λ (r : List ℕ). Additions K ev c r n (row_of K ev c)) so.start
        (additions_stay K ev₁ ev c (λ b l. so.others b (less_apart b c l))
        (subst (λ (i : ℕ). Additions K ev₁ c (row_of K ev₁ c) i (row_of K ev c)) e
        (so.rest 0 (row_of K ev c) (stop (λ b m l g h. none b m l g (subst (λ (r : List ℕ). LargestOf K r m) (sym (so.others b (less_apart b c l))) h))))));
    few = omega (arith, so.few, so.width, row_width_fits K so.room);
    owned = owned;
    others = so.others;
  }
    where
      e : n + 0 ≡ n
      e = omega arith

  -- the boundary is empty
  pub ends_empty : ((s : ℕ) → mark x s ≡ 0) → Finished K c ev₁ ev kept owner n
  ends_empty empty = ends kept owner refl refl (λ b m l g h. none m g) (owned_more so.owned none)
    where
      none : (m : ℕ) → LargestOf K (row_of K ev c) m → ⊥
      none m g = let largest : IsLargestIn x m = of_largest so.bounds g in omega (arith, largest.in_set, empty m)

  -- its largest cell has its place among the owners, and its words among the boundaries
  module _ {m : ℕ} (largest : IsLargestIn x m) where
    pub place : m < length owner
    place = omega (arith, largest.inside, so.long, so.width, so.roomy.owners)

    pub kept_room : m * w + w ≤ length kept
    kept_room =
        let area : bits * w * w ≤ length kept = subst (λ (u : ℕ). bits * u * u ≤ length kept) (sym so.width) so.roomy.boundaries in
        omega (arith, row_before w m (bits * w) (omega (arith, largest.inside, so.long)))

    -- it has no owner
    pub ends_free : owner_of owner m ≡ None → {kept' : List ℕ} → RowKept w m x kept kept' → Finished K c ev₁ ev kept' (set owner m (Some c)) n
    ends_free free {kept'} put = ends kept' (set owner m (Some c)) put.long (length-set owner m (Some c))
        (free_alone so.owned so.bounds largest free)
        (owned_kept so.owned so.bounds largest kept' place (kept_row K so.width put) (kept_others K so.width put))

    -- it has an owner, whose row is added
    module _ {a : ℕ} (taken : owner_of owner m ≡ Some a) where
      pub add_asks : (a < c) × (c * w + w ≤ length ev)
      add_asks = (so.owned.earlier m a taken, row_room K ev c w so.width so.roomy.evidence so.inside)

      largest_kept : IsLargestIn (row_of K kept m) m
      largest_kept = so.owned.largest m a taken

      bounds_a : Bounds K (row_of K kept m) (row_of K ev a)
      bounds_a = so.owned.bounds m a taken

      kept_wide : length x ≡ length (row_of K kept m)
      kept_wide = so.long ∙ sym (ap length (row_at_lem K kept m so.width) ∙ length_row w kept m kept_room)

      wide : length (row_of K ev c) ≡ length (row_of K ev a)
      wide = length_row_of K ev so.roomy.evidence c so.inside ∙ sym (length_row_of K ev so.roomy.evidence a (omega (arith, add_asks.0, so.inside)))

      module _ {x' : List ℕ} (sum : x' ≡ sum_of x (row_at w kept m)) where
        is : x' ≡ sum_of x (row_of K kept m)
        is = sum ∙ ap (sum_of x) (sym (row_at_lem K kept m so.width))

        -- the boundary's largest cell falls
        pub falls : height x' < height x
        falls = rw is (height_falls x (row_of K kept m) m kept_wide largest largest_kept)

        module _ {ev' : List ℕ} (added : RowAdded w c a ev ev') where
          row_sum : row_of K ev' c ≡ sum_of (row_of K ev c) (row_of K ev a)
          row_sum = kept_row K so.width added ∙ sym (ap₂ sum_of (row_at_lem K ev c so.width) (row_at_lem K ev a so.width))

          one_more : (i : ℕ) (y : List ℕ) → Additions K ev₁ c (row_of K ev' c) i y → Additions K ev₁ c (row_of K ev₁ c) (n + 1 + i) y
          one_more i y h =
              let from : row_of K ev a ≡ row_of K ev₁ a = so.others a (less_apart a c add_asks.0) in
              let e : n + suc i ≡ n + 1 + i = omega arith in
              let next : Additions K ev₁ c (sum_of (row_of K ev c) (row_of K ev₁ a)) i y =
              subst (λ (r : List ℕ). Additions K ev₁ c r i y) (row_sum ∙ ap (sum_of (row_of K ev c)) from) h in
              subst (λ (j : ℕ). Additions K ev₁ c (row_of K ev₁ c) j y) e
              (so.rest (suc i) y (add a m add_asks.0 (largest_of so.bounds largest)
              (subst (λ (r : List ℕ). LargestOf K r m) from (largest_of bounds_a largest_kept)) next))

          pub goes_on : Going K c w ev₁ x' ev' kept owner (n + 1)
          goes_on = record {
            room = so.room;
            inside = so.inside;
            width = so.width;
            start = so.start;
            roomy = record { evidence = added.long ∙ so.roomy.evidence; boundaries = so.roomy.boundaries; owners = so.roomy.owners };
            owned = owned_stays (λ b k. kept_others K so.width added b (less_apart b c k)) so.owned;
            others = λ b h. kept_others K so.width added b h ∙ so.others b h;
            long = ap length is ∙ length_sum x (row_of K kept m) ∙ so.long;
            bounds = rw (is, row_sum) (bounds_add K x (row_of K ev c) (row_of K kept m) (row_of K ev a) kept_wide wide so.bounds bounds_a);
            rest = one_more;
            few = omega (arith, so.few, falls);
          }

-- a row that is finished since it was started is finished since it was empty
pub finished_since : {K : Cells} {c : ℕ} {ev ev₁ ev' kept' : List ℕ} {owner' : Owners} {n : ℕ} → ((i : ℕ) → (i ≡ c → ⊥) → row_of K ev₁ i ≡ row_of K ev i) → Finished K c ev₁ ev' kept' owner' n → Finished K c ev ev' kept' owner' n
finished_since same done = record {
  roomy = done.roomy;
  row = done.row;
  few = done.few;
  owned = done.owned;
  others = λ i apart. done.others i apart ∙ same i apart;
}

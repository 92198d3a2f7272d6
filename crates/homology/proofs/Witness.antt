-- Rows of hole cells are independent: the sum of a non-empty selection has a hole cell as its largest cell, and a boundary has none.
-- What carries it: row c has the largest cell c, so the last row selected decides. The measure: the range of cells looked at.
-- Assumes nothing.
use mathlib.Core.Path.{◌≡◌, refl, sym, ap, ap₂, ◌∙◌}
use mathlib.Core.Bool.{Bool, true, false, not, ◌&&◌}
use mathlib.Core.List.{List, [], ◌∷◌}
use Prim.Native.Nat.{ℕ, zero, suc, ◌≤◌, ◌<◌}
use native.Mathlib.Omega.{arith}
use lib.ListN.{length}
use Rattle.counting.proofs.Cases.{and_left, and_right, not_true_false}
use Rattle.counting.specs.Counting.{how_many}
use Rattle.counting.proofs.Counting.{how_many_no, how_many_yes, some_has_at}
use Rattle.homology.specs.Cells.{Cells, Lawful, ◌⊻◌}
use Rattle.homology.specs.Holes.{Chain, picked, chosen, boundary, IsCycle, IsBoundary, Independent}
use Rattle.homology.specs.Evidence.{Rows, IsLargest, Meets}
use Rattle.homology.proofs.Marks.{by_mark, clash, not_on, &&-off, off_⊻}
use Rattle.homology.proofs.Chains.{boundary_member}
use Rattle.homology.proofs.Tops.{Below, member_below, largest_cong, over_largest}
use Rattle.homology.proofs.ChainKinds.{is_cell, row_largest, row_chain, boundary_top}
use Rattle.homology.proofs.HoleCells.{is_bounding, is_closed, is_filled, is_hole, row_filled}
use Rattle.homology.proofs.Selections.{Every, every_at}

-- what a list of chains from hole cells below m is known by
record Found (K : Cells) (rows : Rows) (p m : ℕ) (xs : List Chain) : Type 0 where
  long : length xs ≡ how_many (is_hole K rows p) m
  cycles : Every (IsCycle K p) xs
  ends : (s : List Bool) → Below m (picked s xs)
  tops : (s : List Bool) → length s ≡ length xs → chosen s ≡ true → (c : ℕ) × (is_hole K rows p c ≡ true) × IsLargest (picked s xs) c

ends_more : (m : ℕ) (x : Chain) (xs : List Chain) → Below (suc m) x → ((s : List Bool) → Below m (picked s xs)) → (s : List Bool) → Below (suc m) (picked s (x ∷ xs))
unfolding picked
ends_more m x xs h g [] c l = refl
ends_more m x xs h g (b ∷ s) c l = ap₂ ◌⊻◌ (ap (λ a. b && a) (h c l) ∙ &&-off b) (g s c (omega arith))

module _ (K : Cells) (law : Lawful K) (rows : Rows) (meets : Meets K rows) (p : ℕ) where
  hole_cell : (c : ℕ) → is_hole K rows p c ≡ true → is_cell K p c ≡ true
  hole_cell c e = and_left (is_cell K p c) (not (is_bounding K rows c)) (and_left (is_closed K rows p c) (not (is_filled K rows p c)) e)

  hole_open : (c : ℕ) → is_hole K rows p c ≡ true → is_filled K rows p c ≡ false
  hole_open c e = not_on (is_filled K rows p c) (and_right (is_closed K rows p c) (not (is_filled K rows p c)) e)

  hole_cycle : (c : ℕ) → c < K.size → is_hole K rows p c ≡ true → IsCycle K p (rows c)
  hole_cycle c l e = record {
    chain = row_chain K rows meets p c l (hole_cell c e);
    closed = λ t. not_true_false (boundary K (rows c) t) (λ h. clash (some_has_at (boundary K (rows c)) K.size t (near t h) h) quiet);
  }
    where
      near : (t : ℕ) → boundary K (rows c) t ≡ true → t < K.size
      near t h = (boundary_member K law (rows c) t h).2.face_below

      quiet : is_bounding K rows c ≡ false
      quiet = not_on (is_bounding K rows c) (and_right (is_cell K p c) (not (is_bounding K rows c)) (and_left (is_closed K rows p c) (not (is_filled K rows p c)) e))

  tops_more : (m : ℕ) (xs : List Chain) → m < K.size → is_hole K rows p m ≡ true → Found K rows p m xs
      → (s : List Bool) → length s ≡ suc (length xs) → chosen s ≡ true → (c : ℕ) × (is_hole K rows p c ≡ true) × IsLargest (picked s (rows m ∷ xs)) c
  unfolding picked chosen
  tops_more m xs l e f [] k h = absurd (omega arith)
  tops_more m xs l e f (true ∷ s) k h = (m, e, over_largest (row_largest K rows meets p m l (hole_cell m e)) (f.ends s))
  tops_more m xs l e f (false ∷ s) k h =
      let r = f.tops s (omega arith) h in
      (r.0, r.1, largest_cong (λ c. sym (off_⊻ (picked s xs c))) r.2)

  found : (m : ℕ) → m ≤ K.size → (xs : List Chain) × Found K rows p m xs
  unfolding picked chosen how_many
  found zero l = ([], record { long = refl; cycles = tt; ends = nothing; tops = unpicked })
    where
      nothing : (s : List Bool) → Below 0 (picked s [])
      nothing [] c k = refl
      nothing (b ∷ s) c k = refl

      unpicked : (s : List Bool) → length s ≡ 0 → chosen s ≡ true → (c : ℕ) × (is_hole K rows p c ≡ true) × IsLargest (picked s []) c
      unpicked [] k h = clash h refl
      unpicked (b ∷ s) k h = absurd (omega arith)
  found (suc m) l = let r = found m (omega arith) in by_mark (is_hole K rows p m)
      (λ e. (
        rows m ∷ r.0,
        record {
          long = ap suc r.1.long ∙ sym (how_many_yes (is_hole K rows p) m e);
          cycles = (hole_cycle m l e, r.1.cycles);
          ends = ends_more m (rows m) r.0 (row_largest K rows meets p m l (hole_cell m e)).above r.1.ends;
          tops = tops_more m r.0 l e r.1;
        },
      ))
      (λ e. (
        r.0,
        record {
          long = r.1.long ∙ sym (how_many_no (is_hole K rows p) m e);
          cycles = r.1.cycles;
          ends = λ s c k. r.1.ends s c (omega arith);
          tops = r.1.tops;
        },
      ))

  -- a boundary's largest cell is filled
  not_bounding : (xs : List Chain) → Found K rows p K.size xs → (s : List Bool) → length s ≡ length xs → chosen s ≡ true → IsBoundary K p (picked s xs) → ⊥
  not_bounding xs f s k h b =
      let r = f.tops s k h in
      let top : IsLargest (boundary K b.filling) r.0 = largest_cong (λ c. sym (b.bounds c)) r.2 in
      let q = boundary_top K law rows meets (suc p) b.filling r.0 b.chain top in
      let near : r.0 < K.size = member_below K.size (picked s xs) (f.ends s) r.0 r.2.member in
      clash (row_filled K law rows p r.0 q.0 near q.1 q.2 q.3) (hole_open r.0 r.1)

  pub hole_rows : (xs : List Chain) × (length xs ≡ how_many (is_hole K rows p) K.size) × Independent K p xs
  hole_rows = let r = found K.size (omega arith) in
      (r.0, r.1.long, record { cycles = every_at (IsCycle K p) r.0 r.1.cycles; apart = not_bounding r.0 r.1 })

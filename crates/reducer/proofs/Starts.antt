-- Starting a row: the cell alone in the evidence, and beside it the words of its faces. The row of a point is finished with that.
-- What carries it: the boundary of one cell is its faces, and a face lies below the size, so the row's words hold all of them. Assumes nothing.
use mathlib.Core.Path.{◌≡◌, sym, ap, subst, ◌∙◌}
use mathlib.Core.Logic.{by_cases}
use mathlib.Core.Bool.{Bool}
use mathlib.Core.List.{List}
use Prim.Native.Nat.{ℕ, ◌*◌, ◌/◌, ◌%◌, ◌≤◌, ◌<◌}
use native.Mathlib.Decide.{dec_lt}
use native.Mathlib.Omega.{arith}
use lib.ListN.{length, get_or, take, replicate, length-replicate}
use lib.Seq.{get_or-take, length-take-le}
use Rattle.counting.proofs.Cases.{not_true_false}
use Rattle.homology.specs.Cells.{Cells, Lawful, ◌⊻◌}
use Rattle.homology.specs.Holes.{boundary}
use Rattle.homology.proofs.Marks.{off_⊻}
use Rattle.bitset.specs.Bits.{bits, digit, mark, member, toggled, full_width}
use Rattle.bitset.specs.Rows.{RowStarted}
use Rattle.table.specs.Kind.{capacity}
use Rattle.rows.specs.Rows.{row_width, row_of, FacesAdded}
use Rattle.rows.proofs.Members.{member_cong, member_toggled, member_zeros, member_past}
use Rattle.rows.proofs.Boundaries.{boundary_with_one, boundary_of_empty}
use Rattle.rows.proofs.RowWords.{row_width_fits}
use Rattle.reducer.specs.Rule.{stop, LargestOf, alone, empty_row}
use Rattle.reducer.specs.Work.{Owners, Owned, Roomy, Ready, Begun, Finished}
use Rattle.reducer.proofs.RowWords.{row_at_lem, kept_row, kept_others}
use Rattle.reducer.proofs.Owners.{owned_stays, owned_more}

-- a set of the first words of another
same_words_lem : (w : ℕ) (x y : List ℕ) → ((k : ℕ) → k < w → get_or x k 0 ≡ get_or y k 0) → (s : ℕ) → s < bits * w → member x s ≡ member y s
unfolding mark
same_words_lem w x y same s h = member_cong x y s (ap (λ (v : ℕ). digit v (s % bits)) (same (s / bits) (omega arith)))

module _ {K : Cells} {c : ℕ} (room : K.size ≤ capacity) (lawful : Lawful K) (inside : c < K.size) where
  -- the boundary of the cell alone
  alone_bound : (s : ℕ) → boundary K (member (alone K c)) s ≡ K.inc c s
  unfolding alone
  alone_bound s =
      boundary_with_one K (member (alone K c)) (member (empty_row K)) c inside (member_toggled (empty_row K) c wide) s
      ∙ ap (λ (b : Bool). b ⊻ K.inc c s) (boundary_of_empty K (member (empty_row K)) (member_zeros (row_width K)) s)
      ∙ off_⊻ (K.inc c s)
    where
      wide : c / bits < length (empty_row K)
      wide = rw length-replicate (omega arith)

  -- the faces, in as many words as a row has
  faces_bound : (x b : List ℕ) → length x ≡ row_width K → ((k : ℕ) → k < row_width K → get_or x k 0 ≡ get_or b k 0) → FacesAdded K c (replicate full_width 0) b → (s : ℕ) → member x s ≡ K.inc c s
  faces_bound x b long same added s = by_cases (dec_lt s (bits * row_width K))
      (λ l. same_words_lem (row_width K) x b same s l
      ∙ added.same s
      ∙ ap (λ (m : Bool). m ⊻ K.inc c s) (member_zeros full_width s)
      ∙ off_⊻ (K.inc c s))
      (λ past. member_past x s (omega arith) ∙ sym (not_true_false (K.inc c s) (λ e. omega (arith, (lawful.faces c s e).face_below))))

  -- a point has no faces, so the cell alone has no boundary
  alone_point : K.dim c ≡ 0 → (m : ℕ) → LargestOf K (alone K c) m → ⊥
  alone_point level m g = omega (arith, (lawful.faces c m (sym (alone_bound m) ∙ g.member)).one_down)

  module _ {w : ℕ} {ev ev₁ kept : List ℕ} {owner : Owners} (e : w ≡ row_width K) (ready : Ready K c ev kept owner) (put : RowStarted w c ev ev₁) where
    row : row_of K ev₁ c ≡ alone K c
    unfolding alone
    row = kept_row K e put ∙ ap (λ (x : List ℕ). toggled x c) (sym (row_at_lem K ev c e) ∙ ready.empty)

    roomy : Roomy K ev₁ kept owner
    roomy = record { evidence = put.long ∙ ready.roomy.evidence; boundaries = ready.roomy.boundaries; owners = ready.roomy.owners }

    owned : Owned K ev₁ kept owner c
    owned = owned_stays (λ i l. kept_others K e put i (λ q. omega arith)) ready.owned

    -- the row of a point is finished, and owns nothing
    pub point_finished : K.dim c ≡ 0 → Finished K c ev ev₁ kept owner 0
    point_finished level = record {
      roomy = roomy;
      row = rw row (stop (λ b m l g h. alone_point level m g));
      few = omega arith;
      owned = owned_more owned (λ m g. alone_point level m (subst (λ (x : List ℕ). LargestOf K x m) row g));
      others = kept_others K e put;
    }

    module _ {b : List ℕ} (added : FacesAdded K c (replicate full_width 0) b) where
      wide : length (take w b) ≡ row_width K
      wide = length-take-le w b (omega (arith, added.long, length-replicate {A = ℕ} full_width 0, row_width_fits K room)) ∙ e

      pub begun : Begun K c (take w b) ev₁ kept owner
      begun = record {
        roomy = roomy;
        owned = owned;
        row = row;
        long = wide;
        bounds = record {
          same = λ s.
              faces_bound (take w b) b wide (λ k l. get_or-take w b k 0 (omega arith)) added s
              ∙ sym (alone_bound s)
              ∙ ap (λ (x : List ℕ). boundary K (member x) s) (sym row);
        };
      }

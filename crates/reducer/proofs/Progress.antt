-- The work after c rows: they are as the rule says, their largest cells are owned, the others are empty, and the additions are counted.
-- What carries it: a row changes itself alone, and the rule for a row looks at lower rows alone. Assumes nothing.
use mathlib.Core.Path.{◌≡◌, refl, sym, subst, ◌∙◌}
use mathlib.Core.Bool.{true, false}
use mathlib.Core.List.{List}
use Prim.Native.Nat.{ℕ, suc, ◌+◌, ◌*◌, ◌≤◌, ◌<◌}
use mir.Syntax.{w64}
use mir.Val.{Fits}
use native.Mathlib.Numerals.{add-one}
use native.Mathlib.Omega.{arith}
use lib.ListN.{get_or, set, replicate}
use Rattle.std.specs.Prelude.{Option, None, Some}
use Rattle.homology.specs.Cells.{Cells}
use Rattle.homology.proofs.Marks.{clash}
use Rattle.bitset.proofs.RowLaws.{zeros_row}
use Rattle.table.specs.Kind.{capacity, dimensions}
use Rattle.rows.specs.Rows.{row_width, row_of}
use Rattle.reducer.specs.Rule.{RowByRule, additions_in, empty_row}
use Rattle.reducer.specs.Reduce.{counts, Reduction}
use Rattle.reducer.specs.Work.{Owners, owner_of, Owned, Roomy, Ready, Finished, Fresh}
use Rattle.reducer.proofs.RowWords.{row_at_lem, row_room}
use Rattle.reducer.proofs.LowerRows.{rule_stays, one_row_more}
use Rattle.reducer.proofs.Owners.{owned_more}
use Rattle.reducer.proofs.Meeting.{empty_row_has_no_largest}
use Rattle.reducer.proofs.Counts.{with_row, with_row_here, with_row_there, additions_few, counts_at_most, counts_none, counts_free, counts_live}

pub record Progress (K : Cells) (c : ℕ) (ev kept : List ℕ) (owner : Owners) (made : List ℕ) : Type 0 where
  pub adds : ℕ → ℕ
  pub roomy : Roomy K ev kept owner
  pub each : (b : ℕ) → b < c → RowByRule K ev b (adds b)
  pub few : (b : ℕ) → b < c → adds b ≤ capacity
  pub owned : Owned K ev kept owner c
  pub empty_rows : (b : ℕ) → c ≤ b → b < K.size → row_of K ev b ≡ empty_row K
  pub counted : made ≡ counts (λ p. additions_in K adds p c)

pub progress_first : (K : Cells) (ev kept : List ℕ) (owner : Owners) → Roomy K ev kept owner → Fresh ev owner → Progress K 0 ev kept owner (replicate dimensions 0)
progress_first K ev kept owner roomy fresh = record {
  adds = λ b. 0;
  roomy = roomy;
  each = λ b l. absurd (omega arith);
  few = λ b l. absurd (omega arith);
  owned = record {
    free = λ m b q l g. omega arith;
    earlier = λ m a h. absurd (no_owner m a h);
    bounds = λ m a h. absurd (no_owner m a h);
    largest = λ m a h. absurd (no_owner m a h);
  };
  empty_rows = λ b l h. row_at_lem K ev b refl ∙ zeros_row (row_width K) b ev (row_room K ev b (row_width K) refl roomy.evidence h) fresh.no_rows;
  counted = counts_none K (λ b. 0);
}
  where
    no_owner : (m a : ℕ) → owner_of owner m ≡ Some a → ⊥
    no_owner m a h =
        let e : ◌≡◌ {A = Option ℕ} None (Some a) = sym (fresh.no_owners m) ∙ h in
        let z : ◌≡◌ {A = ℕ} 0 1 = cc in
        omega arith

module _ {K : Cells} {c : ℕ} {ev kept : List ℕ} {owner : Owners} {made : List ℕ} (so : Progress K c ev kept owner made) where
  pub progress_ready : c < K.size → Ready K c ev kept owner
  progress_ready h = record { roomy = so.roomy; owned = so.owned; empty = so.empty_rows c (omega arith) h }

  -- a count with one row more
  pub count_fits : (n : ℕ) → c < capacity → n ≤ capacity → (p : ℕ) → Fits w64 (get_or made p 0 + n)
  count_fits n small few p =
      let so_far : get_or made p 0 ≤ capacity * c = rw so.counted (counts_at_most (λ q. additions_in K so.adds q c) (capacity * c) (λ q. additions_few K so.adds q c so.few) p) in
      omega arith

  -- row c is done too, by n additions
  next : (ev' kept' : List ℕ) (owner' : Owners) (made' : List ℕ) (n : ℕ) → Roomy K ev' kept' owner' → ((b : ℕ) → (b ≡ c → ⊥) → row_of K ev' b ≡ row_of K ev b) → RowByRule K ev' c n → n ≤ capacity → Owned K ev' kept' owner' (suc c)
      → made' ≡ counts (λ p. additions_in K (with_row so.adds c n) p (suc c)) → Progress K (c + 1) ev' kept' owner' made'
  next ev' kept' owner' made' n roomy others row few owned counted = subst (λ (k : ℕ). Progress K k ev' kept' owner' made') (sym (add-one c)) (record {
    adds = with_row so.adds c n;
    roomy = roomy;
    each = one_row_more c
        (λ b l. rw (there b l) (rule_stays K ev ev' b (so.adds b) (λ i k. others i (λ e. omega arith)) (so.each b l)))
        (rw (with_row_here so.adds c n) row);
    few = one_row_more c (λ b l. rw (there b l) (so.few b l)) (rw (with_row_here so.adds c n) few);
    owned = owned;
    empty_rows = λ b l k. others b (λ e. omega arith) ∙ so.empty_rows b (omega arith) k;
    counted = counted;
  })
    where
      there : (b : ℕ) → b < c → with_row so.adds c n b ≡ so.adds b
      there b l = with_row_there so.adds c n b (λ e. omega arith)

  -- a free number, whose row stays empty
  pub progress_free : c < K.size → K.live c ≡ false → Progress K (c + 1) ev kept owner made
  progress_free h free =
      let row : row_of K ev c ≡ empty_row K = so.empty_rows c (omega arith) h in
      next ev kept owner made 0 so.roomy (λ b apart. refl)
      (record { free_row = λ q. row; free_none = λ q. refl; live_row = λ q. clash q free }) (omega arith)
      (owned_more so.owned (λ m. empty_row_has_no_largest K (row_of K ev c) m row))
      (so.counted ∙ counts_free K so.adds c free)

  -- a live cell, whose row took n additions
  pub progress_live : (p : ℕ) → p ≡ K.dim c → p < dimensions → K.live c ≡ true → {ev' kept' : List ℕ} {owner' : Owners} {n : ℕ} → Finished K c ev ev' kept' owner' n → Progress K (c + 1) ev' kept' owner' (set made p (get_or made p 0 + n))
  progress_live p e low on {ev'} {kept'} {owner'} {n} done =
      next ev' kept' owner' (set made p (get_or made p 0 + n)) n done.roomy done.others
      (record { free_row = λ q. clash on q; free_none = λ q. clash on q; live_row = λ q. done.row }) done.few done.owned
      (rw e (counts_live K so.adds c n made on (omega arith) so.counted))

  pub progress_ends : c ≡ K.size → Reduction K ev made
  progress_ends e = record {
    adds = so.adds;
    by_rule = record { size = so.roomy.evidence; each = λ b l. so.each b (omega arith) };
    counted = subst (λ (n : ℕ). made ≡ counts (λ p. additions_in K so.adds p n)) e so.counted;
  }

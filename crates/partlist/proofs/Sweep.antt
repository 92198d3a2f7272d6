-- The sweep's steps: what holds on the way goes on holding, and at the end the entries are exactly the cells.
-- What carries it: a facet stands before its cell, so an insertion moves the cell and all entries after it up by one; and a part of a
-- line is reached from it by taking away one corner at a time. Assumes nothing.
use mathlib.Core.Path.{◌≡◌, refl, sym, ap, subst}
use mathlib.Core.Logic.{◌⊎◌, inl, inr, ⊎_elim}
use mathlib.Core.List.Memᴰ.{head as here}
use mathlib.Core.List.{List, [], ◌∷◌, Memᴰ as In}
use Prim.Native.Nat.{ℕ, zero, suc, ◌≤◌, ◌<◌}
use native.Mathlib.Omega.{arith}
use lib.ListN.{length}
use Rattle.counting.proofs.Cases.{below_or_not, same_or_not}
use Rattle.partlist.specs.Sorting.{Sorted, compared_numbers, sorted_up, insert}
use Rattle.partlist.specs.Cells.{IsPoint, InLine, IsCell, Earlier, compared_cells, cell_list}
use Rattle.partlist.specs.ListTable.{without, corners_at}
use Rattle.partlist.specs.Sweep.{put_at, Fitting, Gathered, FacetsBelow, Swept, Sweeping, InRange}
use Rattle.partlist.proofs.Sorting.{insert_in, insert_keeps, insert_only, insert_sorted, entry_in}
use Rattle.partlist.proofs.Dictionary.{cells_tell}
use Rattle.partlist.proofs.Placing.{insert_by_place, sorted_within, put_length, put_later}
use Rattle.partlist.proofs.Without.{without_length, without_in}
use Rattle.partlist.proofs.CellList.{cells_are_entries, list_sorted, facet_cell}

-- a facet stands before its cell
pub facet_earlier : (j : ℕ) (σ : List ℕ) → j < length σ → Earlier (without j σ) σ
facet_earlier j σ h = inl (omega (arith, without_length j σ h))

facets_carried :
    (cs cs' : List (List ℕ)) (c c' j : ℕ) → corners_at cs' c' ≡ corners_at cs c → ((σ : List ℕ) → In σ cs → In σ cs') → FacetsBelow cs c j →
    FacetsBelow cs' c' j
facets_carried cs cs' c c' j e keep f i =
    subst (λ (τ : List ℕ). i < j → i < length τ → 2 ≤ length τ → In (without i τ) cs') (sym e) (λ a b two. keep (without i (corners_at cs c)) (f i a b two))

-- a list with one cell more
module _ (n : ℕ) (ls cs : List (List ℕ)) (σ : List ℕ) (k : ℕ) (fit : Fitting cs σ k) where
  inserted : insert compared_cells σ cs ≡ put_at k σ cs
  inserted = insert_by_place Earlier compared_cells cells_tell σ [] cs k fit.inside fit.low fit.high

  pub put_keeps : (τ : List ℕ) → In τ cs → In τ (put_at k σ cs)
  put_keeps τ m = subst (λ (l : List (List ℕ)). In τ l) inserted (insert_keeps Earlier compared_cells cells_tell σ τ cs m)

  pub put_in : In σ (put_at k σ cs)
  put_in = subst (λ (l : List (List ℕ)). In σ l) inserted (insert_in Earlier compared_cells cells_tell σ cs)

  pub put_only : (τ : List ℕ) → In τ (put_at k σ cs) → (τ ≡ σ) ⊎ In τ cs
  put_only τ m = insert_only Earlier compared_cells cells_tell σ τ cs (subst (λ (l : List (List ℕ)). In τ l) (sym inserted) m)

  pub put_sorted : Sorted Earlier cs → Sorted Earlier (put_at k σ cs)
  put_sorted s = subst (λ (l : List (List ℕ)). Sorted Earlier l) inserted (insert_sorted Earlier compared_cells cells_tell σ cs s)

  put_gathered : IsCell n ls σ → Gathered n ls cs → Gathered n ls (put_at k σ cs)
  put_gathered is g =
      record {
        sorted = put_sorted g.sorted;
        cells = λ τ m. ⊎_elim (λ e. rw e is) (g.cells τ) (put_only τ m);
        points = λ i h. put_keeps (i ∷ []) (g.points i h);
        lines = λ l m. put_keeps (sorted_up compared_numbers l) (g.lines l m);
      }

module _ (n : ℕ) (ls cs : List (List ℕ)) where
  -- entries that are gathered are at most the cells
  pub gathered_most : Gathered n ls cs → length cs ≤ length (cell_list n ls)
  gathered_most g =
      sorted_within Earlier compared_cells cells_tell (cell_list n ls) cs g.sorted (list_sorted n ls) (λ τ m. cells_are_entries n ls τ (g.cells τ m))

  -- the facet is there already
  pub sweep_found : (c j : ℕ) → Sweeping n ls cs c j → In (without j (corners_at cs c)) cs → Sweeping n ls cs c (suc j)
  sweep_found c j s m = record { swept = s.swept; facets = λ i h. go i h (same_or_not i j) }
    where
      go :
          (i : ℕ) → i < suc j → (i ≡ j) ⊎ (i ≡ j → ⊥) → i < length (corners_at cs c) → 2 ≤ length (corners_at cs c) →
          In (without i (corners_at cs c)) cs
      go i h (inl e) a two = rw e m
      go i h (inr ne) a two = s.facets i (omega (arith, ne)) a two

  -- all facets are there, or the entry is a point
  pub sweep_next : (c j : ℕ) → Sweeping n ls cs c j → length (corners_at cs c) ≤ j → Swept n ls cs c
  sweep_next c j s h =
      record {
        gathered = s.swept.gathered;
        inside = omega (arith, s.swept.inside);
        closed = λ d l m. ⊎_elim (λ e. rw e (λ i a. s.facets i (omega (arith, a)))) (λ ne. s.swept.closed d (omega (arith, ne)) m) (same_or_not d c);
      }

  -- a point or an edge has its facets from the start: they are points
  pub sweep_low : (c : ℕ) → InRange n ls → Swept n ls cs (suc c) → length (corners_at cs c) ≤ 2 → Swept n ls cs c
  sweep_low c range s two =
      sweep_next c 2 (record { swept = s; facets = λ i h a b. facet i a b (g.cells σ (entry_in cs c [] s.inside)).origin }) two
    where
      σ : List ℕ
      σ = corners_at cs c

      g : Gathered n ls cs
      g = s.gathered

      alone : (l : List ℕ) → length l ≡ 1 → ((b : ℕ) → In b l → b < n) → In l cs
      alone [] e low = absurd (omega arith)
      alone (b ∷ []) e low = g.points b (low b (here refl))
      alone (b ∷ (d ∷ l)) e low = absurd (omega arith)

      facet : (i : ℕ) → i < length σ → 2 ≤ length σ → IsPoint n σ ⊎ InLine ls σ → In (without i σ) cs
      facet i a b (inl p) = absurd (omega (arith, b, ap length p.alone))
      facet i a b (inr q) =
          alone (without i σ) (omega (arith, without_length i σ a, two, b)) (λ x m. range q.line q.listed x (q.subset x (without_in i σ x m)))

  -- a facet's place is at or below its cell
  pub facet_below : (c j k : ℕ) → j < length (corners_at cs c) → Fitting cs (without j (corners_at cs c)) k → k ≤ c
  facet_below c j k h fit =
      let σ = corners_at cs c in
      let τ = without j σ in
      ⊎_elim
      (λ l. absurd (cells_tell.apart τ (cells_tell.chain τ σ τ (facet_earlier j σ h) (fit.low c l))))
      (λ l. l)
      (below_or_not c k)

  -- so the entry, and all after it, move up by one where the facet is put in
  pub facet_moves : (c j k : ℕ) → j < length (corners_at cs c) → Fitting cs (without j (corners_at cs c)) k → (d : ℕ) → c ≤ d →
      corners_at (put_at k (without j (corners_at cs c)) cs) (suc d) ≡ corners_at cs d
  facet_moves c j k h fit d l = put_later k (without j (corners_at cs c)) [] cs d (omega (arith, facet_below c j k h fit)) fit.inside

  -- the facet is put in at its place
  pub sweep_put :
      (c j k : ℕ) → Sweeping n ls cs c j → j < length (corners_at cs c) → 2 ≤ length (corners_at cs c) →
      Fitting cs (without j (corners_at cs c)) k →
      Sweeping n ls (put_at k (without j (corners_at cs c)) cs) (suc c) (suc j)
  sweep_put c j k s h two fit =
      record {
        swept = record {
          gathered = put_gathered n ls cs τ k fit (facet_cell n ls σ j (g.cells σ (entry_in cs c [] inside)) two h) g;
          inside = omega (arith, put_length k τ cs, s.swept.inside);
          closed = later;
        };
        facets = λ i l. go i l (same_or_not i j);
      }
    where
      σ : List ℕ
      σ = corners_at cs c

      τ : List ℕ
      τ = without j (corners_at cs c)

      cs' : List (List ℕ)
      cs' = put_at k (without j (corners_at cs c)) cs

      g : Gathered n ls cs
      g = s.swept.gathered

      inside : c < length cs
      inside = s.swept.inside

      keep : (ρ : List ℕ) → In ρ cs → In ρ cs'
      keep = put_keeps n ls cs τ k fit

      moved : (d : ℕ) → c ≤ d → corners_at cs' (suc d) ≡ corners_at cs d
      moved = facet_moves c j k h fit

      later : (d : ℕ) → suc (suc c) ≤ d → d < length cs' → FacetsBelow cs' d (length (corners_at cs' d))
      later zero l m = absurd (omega arith)
      later (suc d) l m =
          facets_carried cs cs' d (suc d) (length (corners_at cs' (suc d))) (moved d (omega arith)) keep
          (λ i a. s.swept.closed d (omega arith) (omega (arith, put_length k τ cs)) i (omega (arith, a, ap length (moved d (omega arith)))))

      go :
          (i : ℕ) → i < suc j → (i ≡ j) ⊎ (i ≡ j → ⊥) → i < length (corners_at cs' (suc c)) → 2 ≤ length (corners_at cs' (suc c)) →
          In (without i (corners_at cs' (suc c))) cs'
      go i l (inl e) a b = rw (moved c (omega arith), e) (put_in n ls cs τ k fit)
      go i l (inr ne) a b = facets_carried cs cs' c (suc c) j (moved c (omega arith)) keep s.facets i (omega (arith, ne)) a b

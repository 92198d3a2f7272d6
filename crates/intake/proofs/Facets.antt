-- The facets of one cell, and the sweep over all cells, with the table that holds them.
-- What carries it: the laws of the sweep over lists of cells; a facet that comes in moves its cell up by one. Assumes nothing.
use mathlib.Core.Path.{◌≡◌, sym, ap, subst, ◌∙◌}
use mathlib.Core.List.{List, Memᴰ as In}
use Prim.Native.Nat.{ℕ, suc, ◌+◌, ◌-◌, ◌/◌, ◌≤◌, ◌<◌}
use native.Mathlib.Omega.{arith}
use native.Mathlib.Numerals.{add-one}
use borrow.Author.Tests.{ne_eqb, le-leb}
use lib.ListN.{length}
use Rattle.std.specs.Prelude.{Result}
use Rattle.calls.specs.declared.Refusal.{Refusal}
use Rattle.table.specs.Kind.{top, faces, width, used}
use Rattle.table.specs.Table.{cells_of, dim, faces_of}
use Rattle.partlist.specs.Cells.{cell_list}
use Rattle.partlist.specs.ListTable.{without, corners_at}
use Rattle.partlist.specs.Sweep.{put_at, Fitting, Swept, Sweeping, InRange}
use Rattle.partlist.proofs.Sweep.{gathered_most, sweep_found, sweep_next, sweep_low, sweep_put, facet_moves}
use Rattle.partlist.proofs.Swept.{sweep_done}
use Rattle.partlist.proofs.Placing.{put_length}
use Rattle.partlist.proofs.ListTable.{used_says}
use Rattle.corners.specs.Scratch.{Packs, Kept, Taken, Overfull, Joined, TakenIn, LeftOut, WithoutPlace}
use Rattle.corners.specs.Scratch.Joined.{there, put}
use Rattle.corners.proofs.Removing.{facet_packs}
use Rattle.intake.specs.Steps.{Gathering, SweptTo, FacetsIn, FacetsOut, SweepsCell, SweptIn, SweptOut}

-- ---- one cell

-- m cells are held; the one with the corners σ is cell c, and has its facets at the places below j
pub record Halfway (n : ℕ) (ls : List (List ℕ)) (room : ℕ) (t σ : List ℕ) (c m j : ℕ) : Type 0 where
  pub cells : List (List ℕ)
  pub count : length cells ≡ m
  pub kept : Kept room t cells
  pub sweeping : Sweeping n ls cells c j
  pub corners : corners_at cells c ≡ σ

-- one facet more: it is there, or it comes in and moves the cell
module _ (n : ℕ) (ls cs : List (List ℕ)) (c j : ℕ) (s : Sweeping n ls cs c j) (two : 2 ≤ length (corners_at cs c)) (h : j < length (corners_at cs c)) where
  record Onward (cs' : List (List ℕ)) : Type 0 where
    sweeping : Sweeping n ls cs' (c + (length cs' - length cs)) (suc j)
    corners : corners_at cs' (c + (length cs' - length cs)) ≡ corners_at cs c

  facet_there : In (without j (corners_at cs c)) cs → Onward cs
  facet_there i =
      let z : c + (length cs - length cs) ≡ c = omega arith in
      record {
        sweeping = subst (λ (x : ℕ). Sweeping n ls cs x (suc j)) (sym z) (sweep_found n ls cs c j s i);
        corners = ap (corners_at cs) z;
      }

  facet_put : (k : ℕ) → Fitting cs (without j (corners_at cs c)) k → Onward (put_at k (without j (corners_at cs c)) cs)
  facet_put k fit =
      let cs' = put_at k (without j (corners_at cs c)) cs in
      let z : c + (length cs' - length cs) ≡ suc c = omega (arith, put_length k (without j (corners_at cs c)) cs) in
      record {
        sweeping = subst (λ (x : ℕ). Sweeping n ls cs' x (suc j)) (sym z) (sweep_put n ls cs c j k s h two fit);
        corners = ap (corners_at cs') z ∙ facet_moves n ls cs c j k h fit c (omega arith);
      }

  facet_joined : (cs' : List (List ℕ)) → Joined cs (without j (corners_at cs c)) cs' → Onward cs'
  facet_joined cs' (there i) = facet_there i
  facet_joined cs' (put k fit) = facet_put k fit

-- the turn at place j of a p-cell with the words ws, whose facet has the words fs
module _
    (n : ℕ) (ls : List (List ℕ)) (room : ℕ) (t σ : List ℕ) (c m j : ℕ) (w : Halfway n ls room t σ c m j) (p : ℕ) (ws fs : List ℕ) (q : Packs p ws σ)
    (two : 2 ≤ p) (place : j ≤ p) (facet : WithoutPlace j ws fs) where
  long : length (corners_at w.cells c) ≡ suc p
  long = ap length w.corners ∙ sym q.count

  facet_is : Packs (p - 1) fs (without j (corners_at w.cells c))
  facet_is = subst (λ (τ : List ℕ). Packs (p - 1) fs (without j τ)) (sym w.corners) (facet_packs p j ws fs σ q (omega arith) place facet)

  onward : (cs : List (List ℕ)) → Joined w.cells (without j (corners_at w.cells c)) cs → Onward n ls w.cells c j w.sweeping (omega (arith, long)) (omega (arith, long)) cs
  onward cs joined = facet_joined n ls w.cells c j w.sweeping (omega (arith, long)) (omega (arith, long)) cs joined

  -- it comes in, if it is not there
  module _ (t' : List ℕ) (r : ℕ) (takes : TakenIn t t' m (p - 1) fs r) where
    took : Taken room w.cells (without j (corners_at w.cells c)) t' r
    took = takes.taken room w.cells (without j (corners_at w.cells c)) w.count w.kept facet_is

    moved : c + (length took.cells - length w.cells) ≡ c + (r - m)
    moved = ap (λ (x : ℕ). c + x) (omega (arith, took.count, w.count))

    halfway_more : Halfway n ls room t' σ (c + (r - m)) r (suc j)
    halfway_more =
        record {
          cells = took.cells;
          count = took.count;
          kept = took.kept;
          sweeping = subst (λ (x : ℕ). Sweeping n ls took.cells x (suc j)) moved (onward took.cells took.joined).sweeping;
          corners = ap (corners_at took.cells) (sym moved) ∙ (onward took.cells took.joined).corners ∙ w.corners;
        }

  -- or has no room
  halfway_full : (t' : List ℕ) (e : Refusal) → LeftOut t t' m (p - 1) fs e → room < length (cell_list n ls)
  halfway_full t' e out =
      let o : Overfull room w.cells (without j (corners_at w.cells c)) =
      out.full room w.cells (without j (corners_at w.cells c)) w.count w.kept facet_is in
      omega (arith, o.full, gathered_most n ls o.cells (onward o.cells o.joined).sweeping.swept.gathered)

-- what the loop over the facets of cell c₀ carries, for whatever list of cells the table held at first
pub record FacetsTo (room : ℕ) (t₀ : List ℕ) (c₀ m₀ : ℕ) (t : List ℕ) (m j : ℕ) : Type 0 where
  pub least : m₀ ≤ m
  pub most : m ≤ room
  pub halfway :
      (n : ℕ) (ls : List (List ℕ)) → (w : SweptTo n ls room t₀ (suc c₀) m₀) →
      Halfway n ls room t (corners_at w.cells c₀) (c₀ + (m - m₀)) m j

module _ (room : ℕ) (t₀ : List ℕ) (c₀ m₀ p : ℕ) (ws : List ℕ) (same_dim : p ≡ dim t₀ c₀) (same_words_lem : ws ≡ faces_of t₀ c₀) (two : 2 ≤ p) where
  packed : (n : ℕ) (ls : List (List ℕ)) → (w : SweptTo n ls room t₀ (suc c₀) m₀) → Packs p ws (corners_at w.cells c₀)
  packed n ls w =
      rw (same_dim, same_words_lem) (w.kept.holds.records c₀ w.swept.inside)

  module _ (t : List ℕ) (m j : ℕ) (s : FacetsTo room t₀ c₀ m₀ t m j) where
    module _ (fs : List ℕ) (place : j < used p) (facet : WithoutPlace j ws fs) where
      pub facets_more : (t' : List ℕ) (r : ℕ) → TakenIn t t' m (p - 1) fs r → r ≤ room → FacetsTo room t₀ c₀ m₀ t' r (j + 1)
      facets_more t' r takes h =
          record {
            least = omega (arith, s.least, takes.least);
            most = h;
            halfway = λ n ls w.
                let z : c₀ + (m - m₀) + (r - m) ≡ c₀ + (r - m₀) = omega (arith, s.least, takes.least) in
                rw (add-one j)
                (subst (λ (x : ℕ). Halfway n ls room t' (corners_at w.cells c₀) x r (suc j)) z
                (halfway_more n ls room t _ _ m j (s.halfway n ls w) p ws fs (packed n ls w) two (used_says p j place).place facet t' r takes));
          }

      pub facets_full : (t' : List ℕ) (e : Refusal) → LeftOut t t' m (p - 1) fs e → FacetsOut room t₀ c₀ m₀ e
      facets_full t' e out =
          record {
            refusal = out.refusal;
            full = λ n ls range w.
                halfway_full n ls room t _ _ m j (s.halfway n ls w) p ws fs (packed n ls w) two (used_says p j place).place facet t' e out;
          }

    pub facets_all : used p ≤ j → FacetsIn room t₀ t c₀ m₀ m
    facets_all h =
        record {
          grown = s.least;
          most = s.most;
          sweeps = λ n ls range w.
              let v = s.halfway n ls w in
              let q = packed n ls w in
              record {
                cells = v.cells;
                count = v.count;
                kept = v.kept;
                swept =
                    sweep_next n ls v.cells (c₀ + (m - m₀)) j v.sweeping
                    (omega (arith, h, used_all p two q.count q.few, q.count, ap length v.corners));
              };
        }
      where
        used_all : (p : ℕ) → 2 ≤ p → {k : ℕ} → suc p ≡ k → k ≤ faces → used p ≡ suc p
        used_all p two e few = rw (ne_eqb p 0 (λ z. omega arith), le-leb p top (omega arith)) (omega arith)

-- a point or an edge
pub facets_low : (room : ℕ) (t : List ℕ) (c m p : ℕ) → p ≡ dim t c → p < 2 → m ≤ room → FacetsIn room t t c m m
facets_low room t c m p e low h =
    record {
      grown = omega arith;
      most = h;
      sweeps = λ n ls range w.
          let z : c ≡ c + (m - m) = omega arith in
          record {
            cells = w.cells;
            count = w.count;
            kept = w.kept;
            swept =
                subst (Swept n ls w.cells) z (sweep_low n ls w.cells c range w.swept
                (omega (arith, (w.kept.holds.records c w.swept.inside).count, e)));
          };
    }

-- tables of one length have the same room
pub same_room :
    (t₀ t t' : List ℕ) (c m : ℕ) (r : Result ℕ Refusal) → length t ≡ length t₀ → SweepsCell (cells_of t) t t' c m r →
    SweepsCell (cells_of t₀) t t' c m r
same_room t₀ t t' c m r e s = subst (λ (x : ℕ). SweepsCell (x / width) t t' c m r) e s

-- ---- all cells

-- what the loop over the cells carries, for whatever the table held at first
pub record CellsTo (room : ℕ) (t₀ : List ℕ) (m₀ : ℕ) (t : List ℕ) (m c : ℕ) : Type 0 where
  pub inside : c ≤ m
  pub most : m ≤ room
  pub reached : (n : ℕ) (ls : List (List ℕ)) → InRange n ls → Gathering n ls room t₀ m₀ → SweptTo n ls room t c m

module _ (room : ℕ) (t₀ : List ℕ) (m₀ : ℕ) (t : List ℕ) (m c : ℕ) (s : CellsTo room t₀ m₀ t m c) where
  module _ (some : 0 < c) where
    before : (n : ℕ) (ls : List (List ℕ)) → InRange n ls → Gathering n ls room t₀ m₀ → SweptTo n ls room t (suc (c - 1)) m
    before n ls range g =
        let z : c ≡ suc (c - 1) = omega arith in
        subst (λ (x : ℕ). SweptTo n ls room t x m) z (s.reached n ls range g)

    pub cells_more : (t' : List ℕ) (r : ℕ) → FacetsIn room t t' (c - 1) m r → CellsTo room t₀ m₀ t' r (c - 1 + (r - m))
    cells_more t' r sweeps =
        record {
          inside = omega (arith, s.inside, sweeps.grown);
          most = sweeps.most;
          reached = λ n ls range g. sweeps.sweeps n ls range (before n ls range g);
        }

    pub cells_full : (e : Refusal) → FacetsOut room t (c - 1) m e → SweptOut room t₀ m₀ e
    cells_full e out = record { refusal = out.refusal; full = λ n ls range g. out.full n ls range (before n ls range g) }

  pub cells_all : c ≤ 0 → SweptIn room t₀ t m₀ m
  cells_all h =
      record {
        most = s.most;
        sweeps = λ n ls range g.
            let w = s.reached n ls range g in
            let z : c ≡ 0 = omega arith in
            let e = sweep_done n ls w.cells (subst (Swept n ls w.cells) z w.swept) in
            record { count = ap length (sym e) ∙ w.count; kept = subst (Kept room t) e w.kept };
      }

-- The same cells under other numbers have the same hole numbers.
-- What carries it: independent cycles are carried both ways. Assumes nothing.
use mathlib.Core.Path.{◌≡◌, refl, sym, ap, subst, ◌∙◌, fun_ext}
use mathlib.Core.Bool.{Bool, true, false, ◌&&◌}
use mathlib.Core.List.{List, [], ◌∷◌, map}
use mathlib.Core.Logic.{◌↔◌}
use Prim.Native.Nat.{ℕ}
use native.Mathlib.Omega.{arith}
use lib.ListN.{length-map}
use Rattle.counting.proofs.Cases.{and_right}
use Rattle.homology.specs.Cells.{Cells, Lawful, ◌⊻◌}
use Rattle.homology.specs.Holes.{Chain, picked, IsCycle, IsBoundary, Independent, IsHoleNumber}
use Rattle.homology.proofs.Marks.{clash, on_in_sum, &&-off}
use Rattle.homology.proofs.Selections.{Every, every_at, at_every, every_map}
use Rattle.renumbering.specs.Renumbering.{CellIn, Renumbering}
use Rattle.renumbering.proofs.Ranges.{is_in}
use Rattle.renumbering.proofs.Moving.{renumbering_turned, carried, carried_cycle, carried_bounds}

kept : (i b x y : Bool) → (b && (i && x)) ⊻ (i && y) ≡ i && ((b && x) ⊻ y)
kept true b x y = refl
kept false b x y = ap (λ z. z ⊻ false) (&&-off b)

-- a selection's sum goes along
picked_carried :
    (K' : Cells) (τ : ℕ → ℕ) (s : List Bool) (xs : List Chain) (d : ℕ) →
    picked s (map (carried K' τ) xs) d ≡ carried K' τ (picked s xs) d
unfolding picked
picked_carried K' τ [] xs d = sym (&&-off (is_in K' d))
picked_carried K' τ (b ∷ s) [] d = sym (&&-off (is_in K' d))
picked_carried K' τ (b ∷ s) (x ∷ xs) d =
    ap (λ z. (b && (is_in K' d && x (τ d))) ⊻ z) (picked_carried K' τ s xs d)
    ∙ kept (is_in K' d) b (x (τ d)) (picked s xs (τ d))

-- and has cells alone
picked_cells : (K : Cells) (p : ℕ) (s : List Bool) (xs : List Chain) → Every (IsCycle K p) xs → (c : ℕ) → picked s xs c ≡ true → CellIn K c
unfolding picked
picked_cells K p [] xs h c e = clash e refl
picked_cells K p (b ∷ s) [] h c e = clash e refl
picked_cells K p (b ∷ s) (x ∷ xs) h c e =
    on_in_sum (b && x c) (picked s xs c) e
    (λ q.
    let m = and_right b (x c) q in
    record { below = h.0.chain.below c m; living = h.0.chain.living c m })
    (picked_cells K p s xs h.1 c)

module _ (K K' : Cells) (σ τ : ℕ → ℕ) (a : Renumbering K K' σ τ) (law : Lawful K) (law' : Lawful K') (p : ℕ) where
  carried_independent : (xs : List Chain) → Independent K p xs → Independent K' p (map (carried K' τ) xs)
  carried_independent xs i =
      let all : Every (IsCycle K p) xs = at_every (IsCycle K p) xs i.cycles in
      record {
        cycles =
            every_at (IsCycle K' p) (map (carried K' τ) xs)
            (every_map (IsCycle K p) (IsCycle K' p) (carried K' τ) (λ x. carried_cycle K K' σ τ a law law' x p) xs all);
        apart = λ s l c b.
            i.apart s (l ∙ length-map xs (carried K' τ)) c
            (carried_bounds K K' σ τ a law law' p (picked s xs) (picked_cells K p s xs all)
            (subst (IsBoundary K' p) (fun_ext (picked_carried K' τ s xs)) b));
      }

holes_carried :
    (K K' : Cells) (σ τ : ℕ → ℕ) → Renumbering K K' σ τ → Lawful K → Lawful K' → (p b : ℕ) → IsHoleNumber K p b → IsHoleNumber K' p b
holes_carried K K' σ τ a law law' p b h =
    record {
      witness = map (carried K' τ) h.witness;
      independent = carried_independent K K' σ τ a law law' p h.witness h.independent;
      reached = length-map h.witness (carried K' τ) ∙ h.reached;
      greatest = λ xs i.
          omega (
            arith,
            length-map xs (carried K σ),
            h.greatest (map (carried K σ) xs) (carried_independent K' K τ σ (renumbering_turned K K' σ τ a) law' law p xs i),
          );
    }

pub renumbering_same_holes :
    (K K' : Cells) (σ τ : ℕ → ℕ) → Renumbering K K' σ τ → Lawful K → Lawful K' → (p b : ℕ) → IsHoleNumber K p b ↔ IsHoleNumber K' p b
renumbering_same_holes K K' σ τ a law law' p b = (
  holes_carried K K' σ τ a law law' p b,
  holes_carried K' K τ σ (renumbering_turned K K' σ τ a) law' law p b,
)

-- Chains carried over a numbering: they stay chains and cycles of their dimension, and the boundary goes along.
-- What carries it: a boundary is a parity over cells, and parities go along. Assumes nothing.
use mathlib.Core.Path.{◌≡◌, sym, ap, ◌∙◌}
use mathlib.Core.Bool.{true, false, ◌&&◌}
use Prim.Native.Nat.{ℕ}
use Rattle.counting.proofs.Cases.{and_left, and_right, not_true_false}
use Rattle.homology.specs.Cells.{Cells, Lawful}
use Rattle.homology.specs.Holes.{Chain, IsChain, boundary, IsCycle, IsBoundary}
use Rattle.homology.proofs.Marks.{by_mark, clash, &&-off, &&-assoc}
use Rattle.homology.proofs.Parity.{odd_cong}
use Rattle.renumbering.specs.Renumbering.{CellIn, Renumbering}
use Rattle.renumbering.proofs.Ranges.{odd_off, guard, under, is_in, in_true, in_says, odd_moved}

pub renumbering_turned : (K K' : Cells) (σ τ : ℕ → ℕ) → Renumbering K K' σ τ → Renumbering K' K τ σ
renumbering_turned K K' σ τ a =
    record {
      there = a.back;
      back = a.there;
      there_back = a.back_there;
      back_there = a.there_back;
      same_dim = λ d i. sym (a.same_dim (τ d) (a.back d i)) ∙ ap K'.dim (a.back_there d i);
      same_inc = λ d e i k.
          sym (a.same_inc (τ d) (τ e) (a.back d i) (a.back e k))
          ∙ ap (λ z. K'.inc z (σ (τ e))) (a.back_there d i)
          ∙ ap (K'.inc d) (a.back_there e k);
    }

-- a chain with each cell under its new number
abbrev pub carried : Cells → (ℕ → ℕ) → Chain → Chain
carried K' τ x d = is_in K' d && x (τ d)

module _ (K : Cells) (law : Lawful K) where
  face_cell : (c t : ℕ) → K.inc c t ≡ true → CellIn K c
  face_cell c t e = let f = law.faces c t e in record { below = f.cell_below; living = f.cell_live }

  face_face : (c t : ℕ) → K.inc c t ≡ true → CellIn K t
  face_face c t e = let f = law.faces c t e in record { below = f.face_below; living = f.face_live }

module _ (K K' : Cells) (σ τ : ℕ → ℕ) (a : Renumbering K K' σ τ) where
  carried_chain : (p : ℕ) (x : Chain) → IsChain K p x → IsChain K' p (carried K' τ x)
  carried_chain p x h =
      record {
        below = λ d e. (inside d e).below;
        living = λ d e. (inside d e).living;
        level = λ d e.
            sym (ap K'.dim (a.back_there d (inside d e)))
            ∙ a.same_dim (τ d) (a.back d (inside d e))
            ∙ h.level (τ d) (and_right (is_in K' d) (x (τ d)) e);
      }
    where
      inside : (d : ℕ) → carried K' τ x d ≡ true → CellIn K' d
      inside d e = in_true K' d (and_left (is_in K' d) (x (τ d)) e)

  -- there and back is nothing, for cells alone
  there_and_back : (x : Chain) → ((c : ℕ) → x c ≡ true → CellIn K c) → (c : ℕ) → carried K σ (carried K' τ x) c ≡ x c
  there_and_back x h c =
      under (is_in K c) (is_in K' (σ c) && x (τ (σ c))) (x c)
      (λ e. let i = in_true K c e in ap (λ b. b && x (τ (σ c))) (in_says K' (σ c) (a.there c i)) ∙ ap x (a.there_back c i))
      ∙ guard (is_in K c) (x c) (λ e. in_says K c (h c e))

  module _ (law : Lawful K) (law' : Lawful K') (x : Chain) where
    at_cell : (u : ℕ) → CellIn K' u → boundary K' (carried K' τ x) u ≡ boundary K x (τ u)
    unfolding boundary
    at_cell u i =
        odd_cong K'.size _ _ (λ d.
        &&-assoc (is_in K' d) (x (τ d)) (K'.inc d u)
        ∙ under (is_in K' d) (x (τ d) && K'.inc d u) (x (τ d) && K.inc (τ d) (τ u)) (λ e.
        let k = in_true K' d e in
        ap (λ b. x (τ d) && b) (sym ((renumbering_turned K K' σ τ a).same_inc d u k i))))
        ∙ odd_moved K K' σ τ a (λ c. x c && K.inc c (τ u))
        ∙ odd_cong K.size _ _ (λ c.
        guard (is_in K c) (x c && K.inc c (τ u)) (λ e. in_says K c (face_cell K law c (τ u) (and_right (x c) (K.inc c (τ u)) e))))

    at_none : (u : ℕ) → is_in K' u ≡ false → boundary K' (carried K' τ x) u ≡ false
    unfolding boundary
    at_none u e =
        odd_off K'.size _ (λ d l. not_true_false (carried K' τ x d && K'.inc d u) (λ q.
        clash (in_says K' u (face_face K' law' d u (and_right (carried K' τ x d) (K'.inc d u) q))) e))

    boundary_carried : (u : ℕ) → boundary K' (carried K' τ x) u ≡ carried K' τ (boundary K x) u
    boundary_carried u =
        by_mark (is_in K' u)
        (λ e. at_cell u (in_true K' u e) ∙ sym (ap (λ b. b && boundary K x (τ u)) e))
        (λ e. at_none u e ∙ sym (ap (λ b. b && boundary K x (τ u)) e))

    pub carried_cycle : (p : ℕ) → IsCycle K p x → IsCycle K' p (carried K' τ x)
    carried_cycle p h =
        record {
          chain = carried_chain p x h.chain;
          closed = λ u. boundary_carried u ∙ ap (λ b. is_in K' u && b) (h.closed (τ u)) ∙ &&-off (is_in K' u);
        }

-- what bounds once carried over bounded before
pub carried_bounds :
    (K K' : Cells) (σ τ : ℕ → ℕ) → Renumbering K K' σ τ → Lawful K → Lawful K' → (p : ℕ) (x : Chain) →
    ((c : ℕ) → x c ≡ true → CellIn K c) → IsBoundary K' p (carried K' τ x) → IsBoundary K p x
carried_bounds K K' σ τ a law law' p x h b =
    let turned = renumbering_turned K K' σ τ a in
    record {
      filling = carried K σ b.filling;
      chain = carried_chain K' K τ σ turned _ b.filling b.chain;
      bounds = λ t.
          boundary_carried K' K τ σ turned law' law b.filling t
          ∙ ap (λ z. is_in K t && z) (b.bounds (σ t))
          ∙ there_and_back K K' σ τ a x h t;
    }

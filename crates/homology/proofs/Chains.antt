-- Chains: the boundary is linear and goes one dimension down, and the boundary of a boundary is empty. So cycles and
-- boundaries add up to cycles and boundaries. What carries it: the laws of parities; of the cells only Lawful is used.
-- Assumes nothing.
use mathlib.Core.Path.{◌≡◌, refl, ap, ap₂, ◌∙◌}
use mathlib.Core.Bool.{Bool, true, false, ◌&&◌}
use Prim.Native.Nat.{ℕ, suc, ◌≤◌}
use native.Mathlib.Omega.{arith}
use Rattle.counting.proofs.Cases.{and_left, and_right, not_true_false}
use Rattle.homology.specs.Cells.{Cells, FaceOf, Lawful, odd, ◌⊻◌}
use Rattle.homology.specs.Holes.{Chain, none, sum, IsChain, boundary, IsCycle, IsBoundary}
use Rattle.homology.proofs.Marks.{clash, on_in_sum, &&-off, &&-assoc, ⊻-&&}
use Rattle.homology.proofs.Parity.{odd_cong, odd_none, odd_⊻, odd_times, times_odd, odd_swap, odd_member}

pub boundary_sum : (K : Cells) (x y : Chain) (t : ℕ) → boundary K (sum x y) t ≡ boundary K x t ⊻ boundary K y t
unfolding boundary
boundary_sum K x y t = odd_cong K.size _ _ (λ c. ⊻-&& (x c) (y c) (K.inc c t))
    ∙ odd_⊻ K.size (λ c. x c && K.inc c t) (λ c. y c && K.inc c t)

pub boundary_none : (K : Cells) (t : ℕ) → boundary K none t ≡ false
unfolding boundary
boundary_none K t = odd_none K.size

-- Cell u is counted once for each cell c of x and each face t of c that has u as a face; for each c that is even.
pub boundary_of_boundary : (K : Cells) → Lawful K → (x : Chain) → (u : ℕ) → boundary K (boundary K x) u ≡ false
unfolding boundary
boundary_of_boundary K law x u =
    odd_cong n _ _ (λ t. odd_times n (λ c. x c && K.inc c t) (K.inc t u))
    ∙ odd_swap n n (λ c t. (x c && K.inc c t) && K.inc t u)
    ∙ odd_cong n _ _ even
    ∙ odd_none n
  where
    n : ℕ
    n = K.size

    even : (c : ℕ) → odd n (λ t. (x c && K.inc c t) && K.inc t u) ≡ false
    even c = odd_cong n _ _ (λ t. &&-assoc (x c) (K.inc c t) (K.inc t u))
        ∙ times_odd n (x c) (λ t. K.inc c t && K.inc t u)
        ∙ ap (λ b. x c && b) (law.twice c u)
        ∙ &&-off (x c)

-- a cell of a boundary is a face of a cell of the chain
pub boundary_member : (K : Cells) → Lawful K → (x : Chain) (t : ℕ) → boundary K x t ≡ true → (c : ℕ) × (x c ≡ true) × FaceOf K c t
unfolding boundary
boundary_member K law x t e =
    let r = odd_member K.size (λ c. x c && K.inc c t) e in
    (r.0, and_left (x r.0) (K.inc r.0 t) r.2, law.faces r.0 t (and_right (x r.0) (K.inc r.0 t) r.2))

module _ (K : Cells) (law : Lawful K) where
  boundary_chain : {p : ℕ} {x : Chain} → IsChain K (suc p) x → IsChain K p (boundary K x)
  boundary_chain {p} {x} h = record {
    below = λ t e. (boundary_member K law x t e).2.face_below;
    living = λ t e. (boundary_member K law x t e).2.face_live;
    level = λ t e. let r = boundary_member K law x t e in omega (arith, r.2.one_down, h.level r.0 r.1);
  }

  pub boundary_closed : {p : ℕ} {x : Chain} → IsChain K (suc p) x → IsCycle K p (boundary K x)
  boundary_closed {p} {x} h = record { chain = boundary_chain h; closed = boundary_of_boundary K law x }

  -- points have no boundary
  pub point_boundary : (x : Chain) → IsChain K 0 x → (t : ℕ) → boundary K x t ≡ false
  point_boundary x h t = not_true_false (boundary K x t) (λ e. let r = boundary_member K law x t e in
      omega (arith, r.2.one_down, h.level r.0 r.1))

  pub boundary_below : (x : Chain) (t : ℕ) → K.size ≤ t → boundary K x t ≡ false
  boundary_below x t h = not_true_false (boundary K x t) (λ e. omega (arith, (boundary_member K law x t e).2.face_below))

module _ {K : Cells} {p : ℕ} where
  pub none_chain : IsChain K p none
  none_chain = record { below = λ c e. clash e refl; living = λ c e. clash e refl; level = λ c e. clash e refl }

  pub sum_chain : {x y : Chain} → IsChain K p x → IsChain K p y → IsChain K p (sum x y)
  sum_chain {x} {y} h g = record {
    below = λ c e. on_in_sum (x c) (y c) e (h.below c) (g.below c);
    living = λ c e. on_in_sum (x c) (y c) e (h.living c) (g.living c);
    level = λ c e. on_in_sum (x c) (y c) e (h.level c) (g.level c);
  }

module _ {K : Cells} {p : ℕ} where
  pub sum_cycle : {x y : Chain} → IsCycle K p x → IsCycle K p y → IsCycle K p (sum x y)
  sum_cycle {x} {y} h g = record {
    chain = sum_chain h.chain g.chain;
    closed = λ t. boundary_sum K x y t ∙ ap₂ ◌⊻◌ (h.closed t) (g.closed t);
  }

  pub sum_boundary : {x y : Chain} → IsBoundary K p x → IsBoundary K p y → IsBoundary K p (sum x y)
  sum_boundary {x} {y} h g = record {
    filling = sum h.filling g.filling;
    chain = sum_chain h.chain g.chain;
    bounds = λ t. boundary_sum K h.filling g.filling t ∙ ap₂ ◌⊻◌ (h.bounds t) (g.bounds t);
  }

  -- a boundary, taken or left
  pub taken_boundary : {x : Chain} (b : Bool) → IsBoundary K p x → IsBoundary K p (λ c. b && x c)
  taken_boundary true h = h
  taken_boundary false h = record { filling = none; chain = none_chain; bounds = boundary_none K }

-- Every chain is of one of two kinds: its boundary is empty, and then so is that of its largest cell's row; or its boundary has
-- the largest cell of some row's boundary. The invariant: the chain, with its largest cells' rows taken off one by one, stays a
-- p-chain. The measure: the end of the chain. Rule A makes a row take off its own cell, rule B keeps two boundaries' largest
-- cells apart. Assumes nothing.
use mathlib.Core.Path.{◌≡◌, sym, ap, ap₂, ◌∙◌, subst, fun_ext}
use mathlib.Core.Bool.{Bool, true, false, ◌&&◌}
use mathlib.Core.Logic.{◌⊎◌, inl, inr}
use Prim.Native.Nat.{ℕ, zero, suc, ◌≤◌, ◌<◌}
use native.Mathlib.Omega.{arith}
use borrow.Author.Tests.{eq-eqb, eqb-true}
use lib.Dec.{eqb}
use Rattle.counting.proofs.Cases.{and_both, and_left, and_right, not_true_false}
use Rattle.homology.specs.Cells.{Cells, Lawful, ◌⊻◌}
use Rattle.homology.specs.Holes.{Chain, sum, IsChain, boundary, IsCycle}
use Rattle.homology.specs.Evidence.{Rows, IsLargest, RuleB, Meets}
use Rattle.homology.proofs.Marks.{by_mark, by_order, clash, ⊻-back, ⊻-off, off_⊻}
use Rattle.homology.proofs.Chains.{boundary_sum, boundary_none, boundary_below, sum_chain}
use Rattle.homology.proofs.Tops.{Below, Empty, below_less, largest, largest_unique, largest_cong, largest_over, over_largest, below_largest}

-- c is a live p-cell
abbrev pub is_cell : Cells → ℕ → ℕ → Bool
is_cell K p c = K.live c && eqb (K.dim c) p

pub cell_live : (K : Cells) (p c : ℕ) → is_cell K p c ≡ true → K.live c ≡ true
cell_live K p c e = and_left (K.live c) (eqb (K.dim c) p) e

pub cell_level : (K : Cells) (p c : ℕ) → is_cell K p c ≡ true → K.dim c ≡ p
cell_level K p c e = eqb-true (K.dim c) p (and_right (K.live c) (eqb (K.dim c) p) e)

pub chain_cell : {K : Cells} {p : ℕ} {x : Chain} → IsChain K p x → (c : ℕ) → x c ≡ true → is_cell K p c ≡ true
chain_cell {K} {p} h c e = and_both _ _ (h.living c e) (eq-eqb (K.dim c) p (h.level c e))

pub chain_below : {K : Cells} {p : ℕ} {x : Chain} → IsChain K p x → Below K.size x
chain_below {x = x} h s l = not_true_false (x s) (λ e. omega (arith, h.below s e))

pub empty_boundary : (K : Cells) (x : Chain) → Empty x → Empty (boundary K x)
empty_boundary K x h t = subst (λ (y : Chain). boundary K y t ≡ false) (sym (fun_ext h)) (boundary_none K t)

-- the two kinds of p-chains that end at m
data Kind (K : Cells) (rows : Rows) (p m : ℕ) (x : Chain) : Type 0 where
  closes : Empty (boundary K x) → ((c : ℕ) → IsLargest x c → Empty (boundary K (rows c))) → Kind K rows p m x
  bounds : (c t : ℕ) → c < m → is_cell K p c ≡ true → IsLargest (boundary K x) t → IsLargest (boundary K (rows c)) t → Kind K rows p m x

module _ (K : Cells) (rows : Rows) (meets : Meets K rows) (p : ℕ) where
  pub row_largest : (c : ℕ) → c < K.size → is_cell K p c ≡ true → IsLargest (rows c) c
  row_largest c l e = let a = meets.rule_a c l in
      record { member = a.own (cell_live K p c e); above = a.highest (cell_live K p c e) }

  pub row_chain : (c : ℕ) → c < K.size → is_cell K p c ≡ true → IsChain K p (rows c)
  row_chain c l e = let a = meets.rule_a c l in
      let on = cell_live K p c e in
      record {
        below = λ s h. let late : c < s → ⊥ = λ g. clash h (a.highest on s g) in omega arith;
        living = λ s h. (a.alike on s h).0;
        level = λ s h. (a.alike on s h).1 ∙ cell_level K p c e;
      }

  -- one more row, with the boundary of what is left known
  module _ (m : ℕ) (x : Chain) (l : m < K.size) (cell : is_cell K p m ≡ true) (h : IsLargest x m) where
    taken_off : (t : ℕ) → boundary K (sum x (rows m)) t ⊻ boundary K (rows m) t ≡ boundary K x t
    taken_off t = ap (λ b. b ⊻ boundary K (rows m) t) (boundary_sum K x (rows m) t) ∙ ⊻-back (boundary K x t) (boundary K (rows m) t)

    less_row : Below m (sum x (rows m))
    less_row s g = by_order m s
        (λ q. ap₂ ◌⊻◌ (h.above s q) ((row_largest m l cell).above s q))
        (λ q. subst (λ t. x t ⊻ rows m t ≡ false) q (ap₂ ◌⊻◌ h.member (row_largest m l cell).member))
        (λ q. absurd (omega arith))

    kind_step : Kind K rows p m (sum x (rows m)) → Empty (boundary K (rows m)) ⊎ ((t : ℕ) × IsLargest (boundary K (rows m)) t) → Kind K rows p (suc m) x
    unfolding RuleB
    kind_step (closes a b) (inl r) = closes
        (λ t. sym (taken_off t) ∙ ap₂ ◌⊻◌ (a t) (r t))
        (λ c k. subst (λ s. Empty (boundary K (rows s))) (largest_unique h k) r)
    kind_step (closes a b) (inr r) = bounds m r.0 (omega arith) cell
        (largest_cong (λ t. sym (off_⊻ (boundary K (rows m) t)) ∙ ap (λ d. d ⊻ boundary K (rows m) t) (sym (a t)) ∙ taken_off t) r.1) r.1
    kind_step (bounds c t g q a b) (inl r) = bounds c t (omega arith) q
        (largest_cong (λ s. sym (⊻-off _) ∙ ap (λ d. boundary K (sum x (rows m)) s ⊻ d) (sym (r s)) ∙ taken_off s) a) b
    kind_step (bounds c t g q a b) (inr r) = by_order t r.0
        (λ k. bounds m r.0 (omega arith) cell (largest_cong taken_off (largest_over (below_largest a k) r.1)) r.1)
        (λ k. absurd (apart k))
        (λ k. bounds c t (omega arith) q (largest_cong taken_off (over_largest a (below_largest r.1 k))) b)
      where
        apart : t ≡ r.0 → ⊥
        apart k = meets.rule_b m l c r.0 g (subst (IsLargest (boundary K (rows c))) k b) r.1

  longer : {m : ℕ} {x : Chain} → Kind K rows p m x → Kind K rows p (suc m) x
  longer (closes a b) = closes a b
  longer (bounds c t g q a b) = bounds c t (omega arith) q a b

module _ (K : Cells) (law : Lawful K) (rows : Rows) (meets : Meets K rows) (p : ℕ) where
  kind : (m : ℕ) (x : Chain) → m ≤ K.size → IsChain K p x → Below m x → Kind K rows p m x
  kind zero x l ch h = closes (empty_boundary K x (λ s. h s (omega arith))) (λ c k. clash k.member (h c (omega arith)))
  kind (suc m) x l ch h = by_mark (x m)
      (λ e. let cell = chain_cell ch m e in
      let top : IsLargest x m = record { member = e; above = h } in
      kind_step K rows meets p m x l cell top
      (kind m (sum x (rows m)) (omega arith) (sum_chain ch (row_chain K rows meets p m l cell)) (less_row K rows meets p m x l cell top))
      (largest K.size (boundary K (rows m)) (boundary_below K law (rows m))))
      (λ e. longer K rows meets p (kind m x (omega arith) ch (below_less m x h e)))

  -- the largest cell of a cycle has a closed row
  pub cycle_top : (x : Chain) (c : ℕ) → IsCycle K p x → IsLargest x c → Empty (boundary K (rows c))
  cycle_top x c cyc h = go (kind K.size x (omega arith) cyc.chain (chain_below cyc.chain))
    where
      go : Kind K rows p K.size x → Empty (boundary K (rows c))
      go (closes a b) = b c h
      go (bounds s t g q a b) = clash a.member (cyc.closed t)

  -- the largest cell of a chain's boundary is that of a row's boundary
  pub boundary_top : (x : Chain) (t : ℕ) → IsChain K p x → IsLargest (boundary K x) t
      → (c : ℕ) × (c < K.size) × (is_cell K p c ≡ true) × IsLargest (boundary K (rows c)) t
  boundary_top x t ch h = go (kind K.size x (omega arith) ch (chain_below ch))
    where
      go : Kind K rows p K.size x → (c : ℕ) × (c < K.size) × (is_cell K p c ≡ true) × IsLargest (boundary K (rows c)) t
      go (closes a b) = clash h.member (a t)
      go (bounds c s g q a b) = (c, g, q, subst (IsLargest (boundary K (rows c))) (largest_unique a h) b)

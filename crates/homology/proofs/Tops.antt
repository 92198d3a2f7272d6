-- Largest members of chains: a chain that ends has one or is empty, it is unique, and a sum has that of the higher part.
-- What carries it: a walk down from the end. Assumes nothing.
use mathlib.Core.Path.{◌≡◌, refl, sym, ap, ap₂, subst, fun_ext}
use mathlib.Core.Bool.{Bool, true, false, cond}
use mathlib.Core.Logic.{◌⊎◌, inl, inr}
use Prim.Native.Nat.{ℕ, zero, suc, ◌≤◌, ◌<◌}
use native.Mathlib.Omega.{arith}
use borrow.Author.Tests.{eq-eqb, eqb-true}
use lib.Dec.{eqb}
use Rattle.homology.specs.Cells.{◌⊻◌}
use Rattle.homology.specs.Holes.{Chain, sum}
use Rattle.homology.specs.Evidence.{IsLargest}
use Rattle.homology.proofs.Marks.{by_mark, by_order, clash, ⊻-comm}

-- x has no member from m on
abbrev pub Below : ℕ → Chain → Type 0
Below m x = (s : ℕ) → m ≤ s → x s ≡ false

abbrev pub Empty : Chain → Type 0
Empty x = (s : ℕ) → x s ≡ false

pub below_less : (m : ℕ) (x : Chain) → Below (suc m) x → x m ≡ false → Below m x
below_less m x h e s l = by_order m s (h s) (λ q. subst (λ t. x t ≡ false) q e) (λ g. absurd (omega arith))

pub member_below : (m : ℕ) (x : Chain) → Below m x → (s : ℕ) → x s ≡ true → s < m
member_below m x h s e = let late : m ≤ s → ⊥ = λ l. clash e (h s l) in omega arith

pub largest : (m : ℕ) (x : Chain) → Below m x → Empty x ⊎ ((t : ℕ) × IsLargest x t)
largest zero x h = inl (λ s. h s (omega arith))
largest (suc m) x h = by_mark (x m)
    (λ e. inr (m, record { member = e; above = h }))
    (λ e. largest m x (below_less m x h e))

pub largest_unique : {x : Chain} {s t : ℕ} → IsLargest x s → IsLargest x t → s ≡ t
largest_unique {x} {s} {t} h g = by_order s t (λ l. clash g.member (h.above t l)) (λ e. e) (λ l. clash h.member (g.above s l))

pub largest_cong : {x y : Chain} {t : ℕ} → ((s : ℕ) → x s ≡ y s) → IsLargest x t → IsLargest y t
largest_cong {t = t} e h = subst (λ (z : Chain). IsLargest z t) (fun_ext e) h

-- what lies below the largest member of y can be added on either side
pub largest_over : {x y : Chain} {m : ℕ} → Below m x → IsLargest y m → IsLargest (sum x y) m
largest_over {x} {y} {m} h g = record {
  member = ap₂ ◌⊻◌ (h m (omega arith)) g.member;
  above = λ s l. ap₂ ◌⊻◌ (h s (omega arith)) (g.above s l);
}

pub over_largest : {x y : Chain} {m : ℕ} → IsLargest y m → Below m x → IsLargest (sum y x) m
over_largest {x} {y} {m} g h = largest_cong (λ s. ⊻-comm (x s) (y s)) (largest_over h g)

pub below_largest : {x : Chain} {t m : ℕ} → IsLargest x t → t < m → Below m x
below_largest h l s g = h.above s (omega arith)

-- the test for it, over a chain with no member from n on
unfoldable pub is_top : ℕ → Chain → ℕ → Bool
is_top zero x t = false
is_top (suc n) x t = cond (x n) (eqb n t) (is_top n x t)

pub top_largest : (n : ℕ) (x : Chain) (t : ℕ) → Below n x → is_top n x t ≡ true → IsLargest x t
unfolding is_top
top_largest zero x t h e = clash e refl
top_largest (suc n) x t h e = by_mark (x n)
    (λ g. subst (IsLargest x) (eqb-true n t (rw g at e)) (record { member = g; above = h }))
    (λ g. top_largest n x t (below_less n x h g) (rw g at e))

pub largest_top : (n : ℕ) (x : Chain) (t : ℕ) → t < n → IsLargest x t → is_top n x t ≡ true
unfolding is_top
largest_top zero x t l h = absurd (omega arith)
largest_top (suc n) x t l h = by_order t n
    (λ g. rw (h.above n g) (largest_top n x t g h))
    (λ q. rw (ap x (sym q), h.member) (eq-eqb n t (sym q)))
    (λ g. absurd (omega arith))

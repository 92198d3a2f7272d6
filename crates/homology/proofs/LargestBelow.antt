-- The largest cell of a chain as one number: one more than it, and 0 where the chain is empty.
-- What carries it: recursion on the bound. Assumes nothing.
use mathlib.Core.Path.{◌≡◌, refl, sym, ap, subst, ◌∙◌}
use mathlib.Core.Bool.{Bool, true, false, ◌||◌}
use Prim.Native.Nat.{ℕ, zero, suc, ◌≤◌, ◌<◌}
use native.Mathlib.Nat.{suc_inj}
use native.Mathlib.Omega.{arith}
use Rattle.counting.specs.Counting.{some_has, largest_below}
use Rattle.homology.specs.Holes.{Chain}
use Rattle.homology.specs.Evidence.{IsLargest}
use Rattle.homology.proofs.Marks.{by_mark, by_order}
use Rattle.homology.proofs.Tops.{Below, Empty, below_less, member_below}

pub largest_bounded : (x : Chain) (n : ℕ) → largest_below x n ≤ n
unfolding largest_below
largest_bounded x zero = omega arith
largest_bounded x (suc n) = by_mark (x n) (λ e. rw e (omega arith)) (λ e. rw e (omega (arith, largest_bounded x n)))

pub empty_largest : (x : Chain) (n : ℕ) → Empty x → largest_below x n ≡ 0
unfolding largest_below
empty_largest x zero h = refl
empty_largest x (suc n) h = rw (h n) (empty_largest x n h)

pub largest_below_said : (x : Chain) (n m : ℕ) → m < n → IsLargest x m → largest_below x n ≡ suc m
unfolding largest_below
largest_below_said x zero m l h = absurd (omega arith)
largest_below_said x (suc n) m l h = by_order m n
    (λ g. rw (h.above n g) (largest_below_said x n m g h))
    (λ e. rw (ap x (sym e), h.member) (ap suc (sym e)))
    (λ g. absurd (omega arith))

pub largest_below_says : (x : Chain) (n m : ℕ) → Below n x → largest_below x n ≡ suc m → IsLargest x m
unfolding largest_below
largest_below_says x zero m h e = absurd (omega arith)
largest_below_says x (suc n) m h e = by_mark (x n)
    (λ g. subst (IsLargest x) (suc_inj (rw g at e)) (record { member = g; above = h }))
    (λ g. largest_below_says x n m (below_less n x h g) (rw g at e))

-- a chain has a member below n exactly where the number is not 0
on_right : (a : Bool) → (a || true) ≡ true
on_right true = refl
on_right false = refl

off_right : (a : Bool) → (a || false) ≡ a
off_right true = refl
off_right false = refl

pub any_on_largest : (x : Chain) (n m : ℕ) → largest_below x n ≡ suc m → some_has x n ≡ true
unfolding largest_below some_has
any_on_largest x zero m e = absurd (omega arith)
any_on_largest x (suc n) m e = by_mark (x n)
    (λ g. rw g (on_right (some_has x n)))
    (λ g. rw g (off_right (some_has x n) ∙ any_on_largest x n m (rw g at e)))

pub any_off_largest : (x : Chain) (n : ℕ) → largest_below x n ≡ 0 → some_has x n ≡ false
unfolding largest_below some_has
any_off_largest x zero e = refl
any_off_largest x (suc n) e = by_mark (x n)
    (λ g. let z : suc n ≡ 0 = rw g at e in absurd (omega arith))
    (λ g. rw g (off_right (some_has x n) ∙ any_off_largest x n (rw g at e)))

-- what the number says of a chain that may go on past n
pub largest_found : (x : Chain) (n m : ℕ) → largest_below x n ≡ suc m → (m < n) × (x m ≡ true) × ((s : ℕ) → m < s → s < n → x s ≡ false)
unfolding largest_below
largest_found x zero m e = absurd (omega arith)
largest_found x (suc n) m e = by_mark (x n)
    (λ h. let q : n ≡ m = suc_inj (rw h at e) in (omega arith, subst (λ (k : ℕ). x k ≡ true) q h, λ s l k. absurd (omega arith)))
    (λ h. let r = largest_found x n m (rw h at e) in
    (omega arith, r.1, λ s l k. by_order s n (r.2 s l) (λ q. subst (λ (i : ℕ). x i ≡ false) (sym q) h) (λ q. absurd (omega arith))))

pub largest_none : (x : Chain) (n : ℕ) → largest_below x n ≡ 0 → (s : ℕ) → s < n → x s ≡ false
unfolding largest_below
largest_none x zero e s l = absurd (omega arith)
largest_none x (suc n) e s l = by_mark (x n)
    (λ h. absurd (omega (arith, rw h at e)))
    (λ h. by_order s n (largest_none x n (rw h at e) s) (λ q. subst (λ (i : ℕ). x i ≡ false) (sym q) h) (λ q. absurd (omega arith)))

-- nothing from m on
pub largest_at_most : (x : Chain) (n m : ℕ) → Below m x → largest_below x n ≤ m
largest_at_most x n m below = go (largest_below x n) refl
  where
    go : (h : ℕ) → largest_below x n ≡ h → h ≤ m
    go zero e = omega arith
    go (suc k) e = member_below m x below k (largest_found x n k e).1

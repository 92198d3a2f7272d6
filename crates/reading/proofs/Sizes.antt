-- How large an integer is, either sign: of a sum, of a sum of many, and when it fits 64 bits.
-- What carries it: the cases of the two signs. Assumes nothing.
use mathlib.Core.Path.{◌≡◌, refl}
use mathlib.Core.Bool.{Bool, true, false, cond}
use Prim.Native.Nat.{ℕ, zero, suc, ◌+◌, ◌-◌, ◌*◌, ◌^◌, ◌<◌, ◌≤◌}
use native.Mathlib.Nat.{suc-mul}
use native.Mathlib.Omega.{arith}
use borrow.Author.Tests.{ltb-true, ltb-false}
use lib.IntN.{ℤ, pos, negsuc, neg_ℤ, sub_ℕ, nat_abs, ◌+ℤ◌}
use lib.Signed.{mag}
use lib.Dec.{ltb}
use mir.Syntax.{w64}
use mir.Val.{SFits}
use Rattle.reading.specs.Sums.{sum_to}

sub_cases : (a b : ℕ) (q : Bool) → ltb a b ≡ q → nat_abs (cond q (negsuc (b - suc a)) (pos (a - b))) ≤ a + b
sub_cases a b true e = omega (arith, ltb-true a b e)
sub_cases a b false e = omega (arith, ltb-false a b e)

sub_size : (a b : ℕ) → nat_abs (sub_ℕ a b) ≤ a + b
sub_size a b = sub_cases a b (ltb a b) refl

-- a sum is no larger than its summands together
pub size_add : (a b : ℤ) → nat_abs (a +ℤ b) ≤ nat_abs a + nat_abs b
size_add (pos a) (pos b) = omega arith
size_add (pos a) (negsuc b) = sub_size a (suc b)
size_add (negsuc a) (pos b) = omega (arith, sub_size b (suc a))
size_add (negsuc a) (negsuc b) = omega arith

pub size_minus : (a : ℤ) → nat_abs (neg_ℤ a) ≡ nat_abs a
size_minus (pos zero) = refl
size_minus (pos (suc n)) = refl
size_minus (negsuc n) = refl

pub size_sum : (n bound : ℕ) (f : ℕ → ℤ) → ((i : ℕ) → i < n → nat_abs (f i) ≤ bound) → nat_abs (sum_to n f) ≤ n * bound
unfolding sum_to
size_sum zero bound f h = omega arith
size_sum (suc n) bound f h =
    let part : nat_abs (sum_to n f) ≤ n * bound = size_sum n bound f (λ i l. h i (omega arith)) in
    let last : nat_abs (f n) ≤ bound = h n (omega arith) in
    omega (arith, size_add (sum_to n f) (f n), suc-mul n bound)

mag_below : (z : ℤ) → mag z ≤ nat_abs z
mag_below (pos n) = omega arith
mag_below (negsuc n) = omega arith

pub fits_below : (z : ℤ) → nat_abs z < 2 ^ 63 → SFits w64 z
fits_below z h = record { sfits = omega (arith, mag_below z) }

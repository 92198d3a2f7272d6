-- Laws of odd, the parity of a range: it adds mod 2, a factor moves in and out, and two ranges change places.
-- What carries each: induction on the range. Assumes nothing.
use mathlib.Core.Path.{◌≡◌, refl, sym, ap, ◌∙◌, fun_ext}
use mathlib.Core.Bool.{Bool, true, false, ◌&&◌}
use Prim.Native.Nat.{ℕ, zero, suc, ◌<◌}
use native.Mathlib.Omega.{arith}
use Rattle.homology.specs.Cells.{odd, ◌⊻◌}
use Rattle.homology.proofs.Marks.{on_in_sum, clash, ⊻-swap, ⊻-&&}

pub odd_cong : (n : ℕ) (f g : ℕ → Bool) → ((c : ℕ) → f c ≡ g c) → odd n f ≡ odd n g
odd_cong n f g h = ap (odd n) (fun_ext h)

pub odd_none : (n : ℕ) → odd n (λ c. false) ≡ false
unfolding odd
odd_none zero = refl
odd_none (suc n) = rw (odd_none n)

pub odd_⊻ : (n : ℕ) (f g : ℕ → Bool) → odd n (λ c. f c ⊻ g c) ≡ odd n f ⊻ odd n g
unfolding odd
odd_⊻ zero f g = refl
odd_⊻ (suc n) f g = ap (λ b. b ⊻ (f n ⊻ g n)) (odd_⊻ n f g) ∙ ⊻-swap (odd n f) (odd n g) (f n) (g n)

pub odd_times : (n : ℕ) (f : ℕ → Bool) (b : Bool) → odd n f && b ≡ odd n (λ c. f c && b)
unfolding odd
odd_times zero f b = refl
odd_times (suc n) f b = ⊻-&& (odd n f) (f n) b ∙ ap (λ a. a ⊻ (f n && b)) (odd_times n f b)

pub times_odd : (n : ℕ) (b : Bool) (f : ℕ → Bool) → odd n (λ c. b && f c) ≡ b && odd n f
times_odd n true f = refl
times_odd n false f = odd_none n

pub odd_swap : (n m : ℕ) (f : ℕ → ℕ → Bool) → odd n (λ t. odd m (λ c. f c t)) ≡ odd m (λ c. odd n (λ t. f c t))
unfolding odd
odd_swap zero m f = sym (odd_none m)
odd_swap (suc n) m f = ap (λ b. b ⊻ odd m (λ c. f c n)) (odd_swap n m f) ∙ sym (odd_⊻ m (λ c. odd n (λ t. f c t)) (λ c. f c n))

-- an odd number of members is at least one member
pub odd_member : (n : ℕ) (f : ℕ → Bool) → odd n f ≡ true → (c : ℕ) × (c < n) × (f c ≡ true)
unfolding odd
odd_member zero f e = clash e refl
odd_member (suc n) f e = on_in_sum (odd n f) (f n) e
    (λ h. let r = odd_member n f h in (r.0, omega arith, r.2))
    (λ h. (n, omega arith, h))

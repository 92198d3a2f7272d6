-- Laws of a list that is given place by place. What carries them: recursion on the length. Assumes nothing.
use mathlib.Core.Path.{◌≡◌, refl, ap}
use Prim.Native.Nat.{ℕ, zero, suc, ◌<◌}
use native.Mathlib.Nat.{not-suc-le-zero, le_of_suc-le-suc}
use lib.ListN.{length, get_or}
use Rattle.counting.specs.Counting.{listed}

pub length_listed : (n : ℕ) (f : ℕ → ℕ) → length (listed n f) ≡ n
unfolding listed
length_listed zero f = refl
length_listed (suc n) f = ap suc (length_listed n (λ k. f (suc k)))

pub get_or_listed : (n : ℕ) (f : ℕ → ℕ) (i : ℕ) → i < n → get_or (listed n f) i 0 ≡ f i
unfolding listed
get_or_listed zero f i h = absurd (not-suc-le-zero h)
get_or_listed (suc n) f zero h = refl
get_or_listed (suc n) f (suc i) h = get_or_listed n (λ k. f (suc k)) i (le_of_suc-le-suc h)

-- A list of corners without one place: its length, its members, that it still rises, and the law of two places.
-- What carries it: recursion on the list and the place. Assumes nothing.
use mathlib.Core.Path.{◌≡◌, refl, ap}
use mathlib.Core.Logic.{◌⊎◌, inl, inr}
use mathlib.Core.List.Memᴰ.{cases_cons as in_cases}
use mathlib.Core.List.Memᴰ.{head as here}
use mathlib.Core.List.Memᴰ.{tail as there}
use mathlib.Core.List.{List, [], ◌∷◌, Memᴰ as In}
use Prim.Native.Nat.{ℕ, zero, suc, ◌≤◌, ◌<◌}
use native.Mathlib.Omega.{arith}
use lib.ListN.{length, get_or}
use Rattle.partlist.specs.Sorting.{Rising}
use Rattle.partlist.specs.ListTable.{without}

pub without_length : (j : ℕ) (σ : List ℕ) → j < length σ → suc (length (without j σ)) ≡ length σ
unfolding without
without_length j [] h = absurd (omega arith)
without_length zero (a ∷ σ) h = refl
without_length (suc j) (a ∷ σ) h = ap suc (without_length j σ (omega arith))

pub without_in : (j : ℕ) (σ : List ℕ) (a : ℕ) → In a (without j σ) → In a σ
unfolding without
without_in j [] a m = m
without_in zero (b ∷ σ) a m = there m
without_in (suc j) (b ∷ σ) a m = go (in_cases m) (without_in j σ a)
  where
    go : (a ≡ b) ⊎ In a (without j σ) → (In a (without j σ) → In a σ) → In a (b ∷ σ)
    go (inl e) i = here e
    go (inr k) i = there (i k)

pub without_rising : (j : ℕ) (σ : List ℕ) → Rising σ → Rising (without j σ)
unfolding without
without_rising j [] s = s
without_rising zero (b ∷ σ) s = s.1
without_rising (suc j) (b ∷ σ) s = (λ a m. s.0 a (without_in j σ a m), without_rising j σ s.1)

-- without the later place, then the earlier one; or the earlier one first, and the later has moved down
pub without_twice : (l j : ℕ) (σ : List ℕ) → l ≤ j → without l (without (suc j) σ) ≡ without j (without l σ)
unfolding without
without_twice l j [] h = refl
without_twice zero j (a ∷ σ) h = refl
without_twice (suc l) zero (a ∷ σ) h = absurd (omega arith)
without_twice (suc l) (suc j) (a ∷ σ) h = ap (λ (τ : List ℕ). a ∷ τ) (without_twice l j σ (omega arith))

-- the corners without place j, by their places
pub without_low : (j : ℕ) (σ : List ℕ) (k : ℕ) → k < j → get_or (without j σ) k 0 ≡ get_or σ k 0
unfolding without
without_low j [] k h = refl
without_low zero (a ∷ σ) k h = absurd (omega arith)
without_low (suc j) (a ∷ σ) zero h = refl
without_low (suc j) (a ∷ σ) (suc k) h = without_low j σ k (omega arith)

pub without_up : (j : ℕ) (σ : List ℕ) (k : ℕ) → j ≤ k → get_or (without j σ) k 0 ≡ get_or σ (suc k) 0
unfolding without
without_up j [] k h = refl
without_up zero (a ∷ σ) k h = refl
without_up (suc j) (a ∷ σ) zero h = absurd (omega arith)
without_up (suc j) (a ∷ σ) (suc k) h = without_up j σ k (omega arith)

-- More laws of the map of an identification: where a number goes, that the two numbers meet, and that nothing rises.
-- What carries them: a number is the larger of the two, or stays. Assumes nothing.
use mathlib.Core.Path.{◌≡◌, ap, sym, ◌∙◌}
use mathlib.Core.Logic.{◌⊎◌, inl, inr, ⊎_elim}
use Prim.Native.Nat.{ℕ, ◌≤◌, min, max}
use native.Mathlib.Omega.{arith}
use Rattle.counting.proofs.Cases.{below_or_not, same_or_not}
use Rattle.merge.specs.Rename.{identify}
use Rattle.merge.proofs.Renaming.{identify_larger, identify_other}

-- a number stays, or is one of the two and goes to the other
pub identify_way :
    (a b c : ℕ) → (identify a b c ≡ c) ⊎ (((identify a b c ≡ a) × (c ≡ b)) ⊎ ((identify a b c ≡ b) × (c ≡ a)))
identify_way a b c =
    ⊎_elim
    (λ e.
    let m : identify a b c ≡ min a b = ap (identify a b) e ∙ identify_larger a b in
    ⊎_elim
    (λ h. inr (inl (omega (arith, m), omega (arith, e))))
    (λ h. inr (inr (omega (arith, m), omega (arith, e))))
    (below_or_not a b))
    (λ n. inl (identify_other a b c n))
    (same_or_not c (max a b))

-- both go to the smaller
pub identify_first : (a b : ℕ) → identify a b a ≡ min a b
identify_first a b =
    ⊎_elim
    (λ h. identify_other a b a (λ e. omega arith) ∙ omega arith)
    (λ h. let m : a ≡ max a b = omega arith in ap (identify a b) m ∙ identify_larger a b)
    (below_or_not a b)

pub identify_second : (a b : ℕ) → identify a b b ≡ min a b
identify_second a b =
    ⊎_elim
    (λ h. let m : b ≡ max a b = omega arith in ap (identify a b) m ∙ identify_larger a b)
    (λ h. ⊎_elim
    (λ e. let m : b ≡ max a b = omega arith in ap (identify a b) m ∙ identify_larger a b)
    (λ n. identify_other a b b (λ e. n (omega arith)) ∙ omega arith)
    (same_or_not a b))
    (below_or_not a b)

-- a number with itself changes nothing
pub identify_itself : (a c : ℕ) → identify a a c ≡ c
identify_itself a c =
    ⊎_elim (λ e. e) (λ w. ⊎_elim (λ f. f.0 ∙ sym f.1) (λ f. f.0 ∙ sym f.1) w) (identify_way a a c)

pub identify_down : (a b c : ℕ) → identify a b c ≤ c
identify_down a b c =
    ⊎_elim
    (λ e. omega (arith, ap (identify a b) e ∙ identify_larger a b, e))
    (λ n. omega (arith, identify_other a b c n))
    (same_or_not c (max a b))

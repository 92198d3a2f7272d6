-- What is refused is one of the grounds, and it applies: so it has every property that each of them has where it applies.
-- What carries it: recursion on the list of grounds. Assumes nothing.
use mathlib.Core.Path.{◌≡◌, refl, subst}
use mathlib.Core.Bool.{Bool, true, false}
use mathlib.Core.List.{List, [], ◌∷◌}
use mathlib.Core.Logic.{◌⊎◌, inl, inr, ⊎_elim}
use Prim.{Unit}
use Prim.Native.Nat.{ℕ}
use native.Mathlib.Omega.{arith}
use Rattle.counting.specs.Counting.{pick}
use Rattle.calls.specs.Calls.{Ground, verdict}
use Rattle.calls.specs.declared.Refusal.{Refusal}
use Rattle.calls.specs.Calls.{Verdict}
use Rattle.std.specs.declared.result.Result.TheVariants.{Err}

-- every refusal of the list has P where its ground applies
abbrev pub Each : (Refusal → Type 0) → List Ground → Type 0
Each P [] = Unit {0}
Each P (g ∷ gs) = (g.applies ≡ true → P g.refusal) × Each P gs

-- the first ground decides, or it does not apply and the others do
pub first_or_later : (b : Bool) (x r : Refusal) (v : Verdict) → pick b (Err x) v ≡ Err r → ((b ≡ true) × (x ≡ r)) ⊎ ((b ≡ false) × (v ≡ Err r))
first_or_later true x r v e = inl (refl, cc)
first_or_later false x r v e = inr (refl, e)

pub refused_has : (P : Refusal → Type 0) (gs : List Ground) (r : Refusal) → Each P gs → verdict gs ≡ Err r → P r
refused_has P [] r each e = let z : ◌≡◌ {A = ℕ} 0 1 = cc in absurd (omega arith)
refused_has P (g ∷ gs) r each e =
    ⊎_elim (λ h. subst P h.1 (each.0 h.0)) (λ h. refused_has P gs r each.1 h.1)
    (first_or_later g.applies g.refusal r (verdict gs) e)

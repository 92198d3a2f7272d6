-- A call is accepted exactly where none of its grounds applies.
-- What carries it: recursion on the list of grounds. Assumes nothing.
use mathlib.Core.Path.{◌≡◌, refl, sym}
use mathlib.Core.Bool.{Bool, true, false}
use mathlib.Core.List.{List, [], ◌∷◌, ◌++◌}
use Prim.{Unit, tt}
use Prim.Native.Nat.{ℕ}
use native.Mathlib.Omega.{arith}
use Rattle.counting.specs.Counting.{pick}
use Rattle.calls.specs.Calls.{Ground, verdict}
use Rattle.calls.specs.declared.Refusal.{Refusal}
use Rattle.calls.specs.Calls.{Verdict}
use Rattle.std.specs.declared.result.Result.TheVariants.{Ok, Err}
use Prim.{tt}

-- no ground applies
abbrev pub NoneApplies : List Ground → Type 0
NoneApplies [] = Unit {0}
NoneApplies (g ∷ gs) = (g.applies ≡ false) × NoneApplies gs

pub refused_not_accepted : (r : Refusal) → ◌≡◌ {A = Verdict} (Err r) (Ok tt) → ⊥
refused_not_accepted r e = let z : ◌≡◌ {A = ℕ} 0 1 = cc in omega arith

passed : (b : Bool) (r : Refusal) (v : Verdict) → pick b (Err r) v ≡ Ok tt → (b ≡ false) × (v ≡ Ok tt)
passed true r v e = absurd (refused_not_accepted r e)
passed false r v e = (refl, e)

pub accepted_none_applies : (gs : List Ground) → verdict gs ≡ Ok tt → NoneApplies gs
accepted_none_applies [] e = tt
accepted_none_applies (g ∷ gs) e =
    let k = passed g.applies g.refusal (verdict gs) e in
    (k.0, accepted_none_applies gs k.1)

pub none_applies_accepted : (gs : List Ground) → NoneApplies gs → verdict gs ≡ Ok tt
none_applies_accepted [] n = refl
none_applies_accepted (g ∷ gs) n = rw n.0 (none_applies_accepted gs n.1)

either_way : (b : Bool) (f v w : Verdict) (r : Refusal) → pick b f v ≡ Err r → (v ≡ Err r → w ≡ Err r) → pick b f w ≡ Err r
either_way true f v w r e h = e
either_way false f v w r e h = h e

-- grounds that come first decide where one of them applies, and are passed where none does
pub refused_first : (gs hs : List Ground) (r : Refusal) → verdict gs ≡ Err r → verdict (gs ++ hs) ≡ Err r
refused_first [] hs r e = absurd (refused_not_accepted r (sym e))
refused_first (g ∷ gs) hs r e = either_way g.applies (Err g.refusal) (verdict gs) (verdict (gs ++ hs)) r e (refused_first gs hs r)

pub accepted_first : (gs hs : List Ground) → verdict gs ≡ Ok tt → verdict (gs ++ hs) ≡ verdict hs
accepted_first [] hs e = refl
accepted_first (g ∷ gs) hs e =
    let k = passed g.applies g.refusal (verdict gs) e in
    rw k.0 (accepted_first gs hs k.1)

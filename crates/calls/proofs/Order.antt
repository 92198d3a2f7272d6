-- Where the numbers of a call's grounds rise, the one that is answered is the lowest of those that apply.
-- What carries it: the first that applies is answered, and all after it have higher numbers. Assumes nothing.
use mathlib.Core.Path.{◌≡◌, sym, subst, ◌∙◌}
use mathlib.Core.Bool.{true, false, false≢true}
use mathlib.Core.List.{List, [], ◌∷◌}
use mathlib.Core.Logic.{⊎_elim}
use Prim.Native.Nat.{ℕ, ◌≤◌, ◌<◌}
use native.Mathlib.Omega.{arith}
use Rattle.calls.specs.Numbers.{number_of}
use Rattle.calls.specs.Calls.{Ground, verdict}
use Rattle.calls.specs.Order.{Applies, Lowest, RisesFrom}
use Rattle.calls.specs.Order.Applies.{here, later}
use Rattle.calls.proofs.Givens.{first_or_later}
use Rattle.calls.specs.declared.Refusal.{Refusal}
use Rattle.std.specs.declared.result.Result.TheVariants.{Err}

above : (n m : ℕ) (gs : List Ground) → RisesFrom n gs → Applies gs m → n < m
above n m [] rise none = elim none [ ]
above n m (g ∷ gs) rise (here e) = rise.0
above n m (g ∷ gs) rise (later a) = omega (arith, rise.0, above (number_of g.refusal) m gs rise.1 a)

module _ (g : Ground) (gs : List Ground) where
  -- the first ground applies: its number is below those of the others
  at_first : RisesFrom (number_of g.refusal) gs → g.applies ≡ true → Lowest (g ∷ gs) g.refusal
  at_first rise a = record { one_of_them = here a; lowest = least }
    where
      least : (m : ℕ) → Applies (g ∷ gs) m → number_of g.refusal ≤ m
      least m (here b) = omega arith
      least m (later b) = let l = above (number_of g.refusal) m gs rise b in omega arith

  -- it does not: the others decide
  past_first : (r : Refusal) → g.applies ≡ false → Lowest gs r → Lowest (g ∷ gs) r
  past_first r off rest = record { one_of_them = later rest.one_of_them; lowest = lower }
    where
      lower : (m : ℕ) → Applies (g ∷ gs) m → number_of r ≤ m
      lower m (here a) = absurd (false≢true (sym off ∙ a))
      lower m (later a) = rest.lowest m a

pub lowest_applies : (n : ℕ) (gs : List Ground) (r : Refusal) → RisesFrom n gs → verdict gs ≡ Err r → Lowest gs r
lowest_applies n [] r rise e = let z : ◌≡◌ {A = ℕ} 0 1 = cc in absurd (omega arith)
lowest_applies n (g ∷ gs) r rise e =
    ⊎_elim
    (λ q. subst (Lowest (g ∷ gs)) q.1 (at_first g gs rise.1 q.0))
    (λ q. past_first g gs r q.0 (lowest_applies (number_of g.refusal) gs r rise.1 q.1))
    (first_or_later g.applies g.refusal r (verdict gs) e)

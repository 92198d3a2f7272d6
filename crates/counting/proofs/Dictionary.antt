-- Of two lists of numbers one comes before the other in dictionary order, or they are equal.
-- What carries it: recursion on both lists. Assumes nothing.
use mathlib.Core.Path.{◌≡◌, refl, sym, ap₂}
use mathlib.Core.Bool.{Bool, true, false}
use mathlib.Core.Logic.{◌⊎◌, inl, inr, ⊎_elim}
use mathlib.Core.List.{List, [], ◌∷◌}
use Prim.{tt}
use Prim.Native.Nat.{ℕ}
use native.Mathlib.Nat.{eq-or-lt_of_le}
use borrow.Author.Tests.{ltb-true, ltb-false}
use lib.Dec.{ltb}
use Rattle.counting.specs.Dictionary.{Before}

-- l comes before m, is m, or comes after it
abbrev Compared : List ℕ → List ℕ → Type 0
Compared l m = Before l m ⊎ ((l ≡ m) ⊎ Before m l)

module _ (a b : ℕ) (l m : List ℕ) (rest : Compared l m) where
  same_head : b ≡ a → Compared (a ∷ l) (b ∷ m)
  same_head e =
      ⊎_elim
      (λ h. inl (inr (sym e, h)))
      (λ h. ⊎_elim (λ q. inr (inl (ap₂ ◌∷◌ (sym e) q))) (λ k. inr (inr (inr (e, k)))) h)
      rest

  heads : (t : Bool) → ltb a b ≡ t → Compared (a ∷ l) (b ∷ m)
  heads true e = inl (inl (ltb-true a b e))
  heads false e = ⊎_elim same_head (λ h. inr (inr (inl h))) (eq-or-lt_of_le (ltb-false a b e))

pub before_same_after : (l m : List ℕ) → Before l m ⊎ ((l ≡ m) ⊎ Before m l)
before_same_after [] [] = inr (inl refl)
before_same_after [] (b ∷ m) = inl tt
before_same_after (a ∷ l) [] = inr (inr tt)
before_same_after (a ∷ l) (b ∷ m) = heads a b l m (before_same_after l m) (ltb a b) refl

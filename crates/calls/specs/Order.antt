-- 'Several at once: the lowest number applies', said of a list of grounds.
-- A reader must believe these definitions; nothing here is proved.
use Rattle.std.specs.Prelude.{◌≡◌, true, List, [], ◌∷◌, ℕ, ◌≤◌, ◌<◌}
use Prim.{Unit}
use Rattle.calls.specs.Numbers.{number_of}
use Rattle.calls.specs.Calls.{Ground}
use Rattle.calls.specs.declared.Refusal.{Refusal}

-- a ground of the list that applies has the number n
pub data Applies : List Ground → ℕ → Type 0 where
  here : {g : Ground} {gs : List Ground} → g.applies ≡ true → Applies (g ∷ gs) (number_of g.refusal)
  later : {g : Ground} {gs : List Ground} {n : ℕ} → Applies gs n → Applies (g ∷ gs) n

-- the refusal r has the lowest number of those that apply
pub record Lowest (gs : List Ground) (r : Refusal) : Type 0 where
  pub one_of_them : Applies gs (number_of r)
  pub lowest : (n : ℕ) → Applies gs n → number_of r ≤ n

-- every number of the list is above n, and they rise from ground to ground
abbrev pub RisesFrom : ℕ → List Ground → Type 0
RisesFrom n [] = Unit {0}
RisesFrom n (g ∷ gs) = (n < number_of g.refusal) × RisesFrom (number_of g.refusal) gs

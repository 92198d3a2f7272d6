-- The dictionary order on lists of numbers.
-- A reader must believe this definition; nothing here is proved.
use Rattle.std.specs.Prelude.{◌≡◌, ◌⊎◌, List, [], ◌∷◌, ℕ, ◌<◌}
use Prim.{Unit}

-- at the first place where two lists differ the first has the smaller number, or has ended
abbrev pub Before : List ℕ → List ℕ → Type 0
Before [] [] = ⊥
Before [] (b ∷ m) = Unit {0}
Before (a ∷ l) [] = ⊥
Before (a ∷ l) (b ∷ m) = (a < b) ⊎ ((a ≡ b) × Before l m)

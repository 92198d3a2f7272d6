-- The weld of two cells as it was asked for: the smallest equivalence of live cells that holds the two and is carried by every face
-- operator, and the map that sends each cell to the smallest number of its class. No algorithm is named.
-- A reader must believe these definitions; nothing here is proved.
use Rattle.std.specs.Prelude.{◌≡◌, List, ℕ, ◌≤◌, ◌<◌}
use Rattle.table.specs.Kind.{used}
use Rattle.table.specs.Table.{dim, face, Live}

-- A congruence of a table is
pub record Congruence (t : List ℕ) (R : ℕ → ℕ → Type 0) : Type 0 where
  -- an equivalence of its live cells
  pub itself : (c : ℕ) → Live t c → R c c
  pub turned : (c d : ℕ) → Live t c → Live t d → R c d → R d c
  pub through : (c d e : ℕ) → Live t c → Live t d → Live t e → R c d → R d e → R c e
  -- that joins cells of one dimension,
  pub level : (c d : ℕ) → Live t c → Live t d → R c d → dim t c ≡ dim t d
  -- and with them their faces, place by place.
  pub carried : (c d j : ℕ) → Live t c → Live t d → R c d → j < used (dim t c) → R (face t c j) (face t d j)

-- κ is the map of the weld of a and b when
pub record IsWeld (t : List ℕ) (a b : ℕ) (κ : ℕ → ℕ) : Type 1 where
  -- its classes are a congruence that has a and b together,
  pub congruence : Congruence t (λ c d. κ c ≡ κ d)
  pub joins : κ a ≡ κ b
  -- and lie in every other such congruence;
  pub smallest : (R : ℕ → ℕ → Type 0) → Congruence t R → R a b → (c d : ℕ) → Live t c → Live t d → κ c ≡ κ d → R c d
  -- each cell goes to the smallest number of its class,
  pub lives : (c : ℕ) → Live t c → Live t (κ c)
  pub once : (c : ℕ) → κ (κ c) ≡ κ c
  pub down : (c : ℕ) → κ c ≤ c
  -- and a number that is no live cell stays.
  pub others : (c : ℕ) → (Live t c → ⊥) → κ c ≡ c

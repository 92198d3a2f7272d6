-- A hole number is one number. What carries it: each of two is reached by a list that the other bounds. Assumes nothing.
use mathlib.Core.Path.{◌≡◌}
use Prim.Native.Nat.{ℕ}
use native.Mathlib.Omega.{arith}
use Rattle.homology.specs.Cells.{Cells}
use Rattle.homology.specs.Holes.{IsHoleNumber}

pub hole_number_unique : (K : Cells) (p b b' : ℕ) → IsHoleNumber K p b → IsHoleNumber K p b' → b ≡ b'
hole_number_unique K p b b' h g = omega (
  arith,
  h.reached,
  g.reached,
  h.greatest g.witness g.independent,
  g.greatest h.witness h.independent,
)

-- How many face places a dimension has: the laws of `used`.
-- What carries them: the cases of the two tests. Assumes nothing.
use mathlib.Core.Path.{◌≡◌, refl}
use mathlib.Core.Bool.{Bool, true, false}
use Prim.Native.Nat.{ℕ, ◌+◌, ◌≤◌, ◌<◌}
use native.Mathlib.Omega.{arith}
use borrow.Author.Tests.{ne_eqb, le-leb, eqb-false, leb-true}
use lib.Dec.{leb, eqb}
use Rattle.counting.specs.Counting.{pick}
use Rattle.table.specs.Kind.{top, faces, used}

-- a dimension from 1 to 6 has one place more than its number
pub used_is : (p : ℕ) → 1 ≤ p → p ≤ top → used p ≡ p + 1
used_is p h l = simp (ne_eqb p 0 (λ e. omega arith), le-leb p top l)

used_cases : (a b : Bool) (p j : ℕ) → eqb p 0 ≡ a → leb p top ≡ b → j < pick a 0 (pick b (p + 1) 0) → (1 ≤ p) × (p ≤ top) × (j ≤ p)
used_cases true b p j e f h = omega arith
used_cases false true p j e f h =
    let z : (p ≡ 0 → ⊥) = eqb-false p 0 e in
    let l : p ≤ top = leb-true p top f in
    (omega arith, l, omega arith)
used_cases false false p j e f h = omega arith

-- a used place says of the dimension that it is one, and of the place that it is at most the dimension
pub used_says : (p j : ℕ) → j < used p → (1 ≤ p) × (p ≤ top) × (j ≤ p)
used_says p j h = used_cases (eqb p 0) (leb p top) p j refl refl h

fit_cases : (a b : Bool) (p : ℕ) → leb p top ≡ b → pick a 0 (pick b (p + 1) 0) ≤ faces
fit_cases true b p f = omega arith
fit_cases false true p f = omega (arith, leb-true p top f)
fit_cases false false p f = omega arith

-- and no more than a record has face words
pub used_fits : (p : ℕ) → used p ≤ faces
used_fits p = fit_cases (eqb p 0) (leb p top) p refl

-- How many face places the law speaks of: the laws of `law_places`.
-- What carries them: the cases of its test. Assumes nothing.
use mathlib.Core.Path.{◌≡◌, refl}
use mathlib.Core.Bool.{Bool, true, false}
use Prim.Native.Nat.{ℕ, ◌≤◌, ◌<◌}
use native.Mathlib.Omega.{arith}
use borrow.Author.Tests.{le-leb, lt-leb, leb-true}
use lib.Dec.{leb}
use Rattle.counting.specs.Counting.{pick}
use Rattle.table.specs.Kind.{top, used}
use Rattle.table.proofs.Places.{used_says}
use Rattle.audit.specs.Audit.{law_places}

-- the law's places are the used ones, from dimension 2 on
pub law_places_is : (p : ℕ) → 2 ≤ p → law_places p ≡ used p
law_places_is p h = simp (le-leb 2 p h)

pub law_places_none : (p : ℕ) → p < 2 → law_places p ≡ 0
law_places_none p h = simp (lt-leb 2 p h)

law_cases : (a : Bool) (p j : ℕ) → leb 2 p ≡ a → j < pick a (used p) 0 → (2 ≤ p) × (p ≤ top) × (j ≤ p)
law_cases true p j e h = let u = used_says p j h in (leb-true 2 p e, u.1, u.2)
law_cases false p j e h = omega arith

pub law_places_says : (p j : ℕ) → j < law_places p → (2 ≤ p) × (p ≤ top) × (j ≤ p)
law_places_says p j h = law_cases (leb 2 p) p j refl h

fewer_cases : (a : Bool) (x : ℕ) → pick a x 0 ≤ x
fewer_cases true x = omega arith
fewer_cases false x = omega arith

-- so they are used ones
pub law_places_fit : (p : ℕ) → law_places p ≤ used p
law_places_fit p = fewer_cases (leb 2 p) (used p)

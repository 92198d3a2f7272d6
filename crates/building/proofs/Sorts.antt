-- The four sorts of numbers in a table with a cone: old cells, the apex, cones, and the rest, which is free; and the four places of
-- a face word in a cone's record. What is shown of a cone goes by these cases.
-- What carries them: the marked cells are below the table's size, so that a search decides whether a number is a cone.
-- Assumes nothing.
use mathlib.Core.Path.{◌≡◌, refl, sym, ◌∙◌}
use mathlib.Core.Bool.{Bool, true, false, ◌&&◌, false≢true}
use mathlib.Core.List.{List}
use mathlib.Core.Logic.{◌⊎◌, inl, inr}
use Prim.Native.Nat.{ℕ, zero, suc, ◌≤◌, ◌<◌}
use native.Mathlib.Omega.{arith}
use borrow.Author.Tests.{eq-eqb, eqb-true, eqb-false}
use lib.Dec.{eqb}
use Rattle.bitset.specs.Bits.{member}
use Rattle.table.specs.Kind.{top, used}
use Rattle.table.specs.Table.{cells_of, live, Live}
use Rattle.table.proofs.Records.{live_true}
use Rattle.table.proofs.Places.{used_is}
use Rattle.counting.specs.Counting.{some_has}
use Rattle.cone.specs.Cone.{free}
use Rattle.counting.proofs.Cases.{below_or_not, and_both, and_left, and_right}
use Rattle.counting.proofs.Counting.{some_has_each, some_has_one}
use Rattle.cone.proofs.GivenNumbers.{not_live_free}

-- the sort of the number c
pub data Sort (t marks : List ℕ) (apex : ℕ) (cone : ℕ → ℕ) (c : ℕ) : Type 0 where
  old : Live t c → Sort t marks apex cone c
  tip : c ≡ apex → Sort t marks apex cone c
  over : (s : ℕ) → member marks s ≡ true → c ≡ cone s → Sort t marks apex cone c
  rest : free t c ≡ true → (c ≡ apex → ⊥) → ((s : ℕ) → member marks s ≡ true → c ≡ cone s → ⊥) → Sort t marks apex cone c

module _ (t marks : List ℕ) (inside : (s : ℕ) → member marks s ≡ true → Live t s) (apex : ℕ) (cone : ℕ → ℕ) (c : ℕ) where
  abbrev is_cone_of : ℕ → Bool
  is_cone_of s = member marks s && eqb c (cone s)

  -- a free number is the apex, a cone, or neither
  sort_of_cone : free t c ≡ true → (c ≡ apex → ⊥) → (b : Bool) → some_has is_cone_of (cells_of t) ≡ b → Sort t marks apex cone c
  sort_of_cone f other true e =
      let w = some_has_one is_cone_of (cells_of t) e in
      over w.0 (and_left (member marks w.0) (eqb c (cone w.0)) w.2)
      (eqb-true c (cone w.0) (and_right (member marks w.0) (eqb c (cone w.0)) w.2))
  sort_of_cone f other false e =
      rest f other
      (λ s m i.
      false≢true
      (sym (some_has_each is_cone_of (cells_of t) e s (inside s m).inside)
      ∙ and_both (member marks s) (eqb c (cone s)) m (eq-eqb c (cone s) i)))

  sort_of_free : free t c ≡ true → (b : Bool) → eqb c apex ≡ b → Sort t marks apex cone c
  sort_of_free f true e = tip (eqb-true c apex e)
  sort_of_free f false e = sort_of_cone f (eqb-false c apex e) (some_has is_cone_of (cells_of t)) refl

  pub sort_of : c < cells_of t → Sort t marks apex cone c
  sort_of h = go (live t c) refl
    where
      go : (b : Bool) → live t c ≡ b → Sort t marks apex cone c
      go true e = old (live_true t c e)
      go false e = sort_of_free (not_live_free t c h e) (eqb c apex) refl

-- the place of face word j in the record of a cone over a p-cell
pub data Place (p j : ℕ) : Type 0 where
  base : j ≡ suc p → Place p j
  past : suc p < j → Place p j
  first : p ≡ 0 → j ≡ 0 → Place p j
  side : 1 ≤ p → j ≤ p → j < used p → Place p j

pub place_of : (p j : ℕ) → p ≤ top → Place p j
place_of zero zero h = first refl refl
place_of zero (suc zero) h = base refl
place_of zero (suc (suc j)) h = past (omega arith)
place_of (suc p) j h = go (below_or_not j (suc (suc p))) (below_or_not (suc (suc p)) j)
  where
    go : (j < suc (suc p)) ⊎ (suc (suc p) ≤ j) → (suc (suc p) < j) ⊎ (j ≤ suc (suc p)) → Place (suc p) j
    go (inl l) k = side (omega arith) (omega arith) (rw (used_is (suc p) (omega arith) h) (omega arith))
    go (inr l) (inl k) = past k
    go (inr l) (inr k) = base (omega arith)

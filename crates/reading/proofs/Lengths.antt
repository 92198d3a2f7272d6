-- What the test of the three lengths says.
-- What carries it: the cases of its three parts. Assumes nothing.
use mathlib.Core.Path.{◌≡◌}
use mathlib.Core.Bool.{true, ◌&&◌}
use mathlib.Core.List.{List}
use Prim.Native.Nat.{ℕ}
use borrow.Author.Tests.{eqb-true}
use lib.ListN.{length}
use lib.IntN.{ℤ}
use lib.Dec.{eqb}
use Rattle.counting.proofs.Cases.{and_left, and_right}
use Rattle.table.specs.Table.{cells_of, sized}
use Rattle.reading.specs.Boundary.{lengths_fit}

-- what the three lengths say
pub record Fitting (t : List ℕ) (x y : List ℤ) : Type 0 where
  pub table : sized t ≡ true
  pub chain : length x ≡ cells_of t
  pub target : length y ≡ cells_of t

module _ (t : List ℕ) (x y : List ℤ) where
  pub lengths_say : (sized t && lengths_fit t x y) ≡ true → Fitting t x y
  unfolding lengths_fit
  lengths_say e =
      let both = and_right (sized t) (lengths_fit t x y) e in
      record {
        table = and_left (sized t) (lengths_fit t x y) e;
        chain = eqb-true (length x) (cells_of t) (and_left (eqb (length x) (cells_of t)) (eqb (length y) (cells_of t)) both);
        target = eqb-true (length y) (cells_of t) (and_right (eqb (length x) (cells_of t)) (eqb (length y) (cells_of t)) both);
      }

-- The test of the length says `Sized`. What carries it: the cases of its three parts. Assumes nothing.
use mathlib.Core.Path.{◌≡◌}
use mathlib.Core.Bool.{true, ◌&&◌}
use mathlib.Core.List.{List}
use Prim.Native.Nat.{ℕ, ◌%◌}
use native.Mathlib.Omega.{arith}
use native.Mathlib.Nat.{div-add-mod'}
use borrow.Author.Tests.{eq-eqb, le-leb, eqb-true, leb-true}
use lib.ListN.{length}
use lib.Dec.{leb, eqb}
use Rattle.counting.proofs.Cases.{and_left, and_right}
use Rattle.table.specs.Kind.{capacity, width}
use Rattle.table.specs.Table.{cells_of, Sized, sized}

pub sized_is_sized : (t : List ℕ) → sized t ≡ true → Sized t
unfolding sized
sized_is_sized t e =
    let few = and_right (eqb (length t % width) 0) (leb 1 (cells_of t) && leb (cells_of t) capacity) e in
    record {
      whole = omega (arith, eqb-true (length t % width) 0 (and_left (eqb (length t % width) 0) (leb 1 (cells_of t) && leb (cells_of t) capacity) e), div-add-mod' (length t) width);
      some = leb-true 1 (cells_of t) (and_left (leb 1 (cells_of t)) (leb (cells_of t) capacity) few);
      room = leb-true (cells_of t) capacity (and_right (leb 1 (cells_of t)) (leb (cells_of t) capacity) few);
    }

pub sized_says : (t : List ℕ) → Sized t → sized t ≡ true
unfolding sized
sized_says t s =
    simp (eq-eqb (length t % width) 0 (omega (arith, s.whole)), le-leb 1 (cells_of t) s.some, le-leb (cells_of t) capacity s.room)

-- How the sums of the calls go: cell by cell, and within a cell place by place. The contracts of the inner functions cite these.
-- A reader need not believe this file: the calls' contracts speak of Incidence.antt and Boundary.antt alone.
use Rattle.std.specs.Prelude.{◌≡◌, true, List, ℕ, ◌^◌, ◌≤◌, ◌<◌, length, get_or, set, ℤ, pos, ◌+ℤ◌, nat_abs}
use Rattle.table.specs.Kind.{faces}
use Rattle.table.specs.Table.{cells_of, face, Valid}
use Rattle.calls.specs.Calls.{verdict, on_verdict}
use Rattle.calls.specs.Calls.{Verdict}
use Rattle.std.specs.declared.result.Result.{Result}
use Rattle.calls.specs.declared.Refusal.{Refusal}
use Rattle.std.specs.declared.result.Result.TheVariants.{Ok, Err}
use Rattle.reading.specs.Sums.{sum_to, integers}
use Rattle.reading.specs.Incidence.{incidence_of, cell_grounds}
use Rattle.reading.specs.Boundary.{turned, place_adds, limit, all_small, all_placed, chain_grounds}

-- the list after z was added at u with the sign of place j
abbrev pub put : List ℤ → ℕ → ℕ → ℤ → List ℤ
put y u j z = set y u (get_or y u (pos 0) +ℤ turned j z)

-- y after the first m places of cell c with the coefficient z
unfoldable pub added : List ℕ → ℕ → ℤ → List ℤ → ℕ → ℕ → ℤ
added t c z y m u = get_or y u (pos 0) +ℤ sum_to m (place_adds t c z u)

-- When cell c with the coefficient z can be added into y at its first m places: each names a number of y, and no sum comes near the
-- end of 64 bits.
pub record Adding (t : List ℕ) (c m : ℕ) (z : ℤ) (y : List ℤ) : Type 0 where
  pub inside : c < cells_of t
  pub places : m ≤ faces
  pub faces_inside : (j : ℕ) → j < m → face t c j < length y
  pub small : nat_abs z ≤ limit
  pub room : (u : ℕ) → nat_abs (get_or y u (pos 0)) ≤ 2 ^ 62

-- when the cells of a p-chain can be added into y: all that the call has tested, and y is all 0
pub record Addable (t : List ℕ) (x : List ℤ) (p : ℕ) (y : List ℤ) : Type 0 where
  pub valid : Valid t
  pub long : length x ≡ cells_of t
  pub small : all_small (cells_of t) x ≡ true
  pub placed : all_placed t x p ≡ true
  pub cleared : y ≡ integers (cells_of t) (λ u. pos 0)

-- what the chain and its dimension decide, once the lengths fit and the table is valid
unfoldable pub chain_verdict : List ℕ → List ℤ → ℕ → Verdict
chain_verdict t x p = verdict (chain_grounds t x p)

-- what the two cells decide, once the table is valid
unfoldable pub cells_answer : List ℕ → ℕ → ℕ → Result ℤ Refusal
cells_answer t s u = on_verdict (verdict (cell_grounds t s u)) (Ok (incidence_of t s u)) Err

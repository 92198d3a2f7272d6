-- The arrays that the reducer works in: large enough for the cells, and fresh. Assumes nothing.
use mathlib.Core.Path.{◌≡◌, refl}
use mathlib.Core.List.{List}
use Prim.Native.Nat.{ℕ, zero, suc, ◌*◌, ◌≤◌}
use native.Mathlib.Omega.{arith}
use lib.ListN.{length, replicate, length-replicate}
use Rattle.homology.specs.Cells.{Cells}
use Rattle.bitset.specs.Bits.{bits}
use Rattle.rows.specs.Rows.{row_width, evidence_words}
use Rattle.reducer.specs.Work.{owner_of, Roomy, Blank, Fresh}
use Rattle.std.specs.Prelude.{Option, None}

none_owned : (m k : ℕ) → owner_of (replicate m None) k ≡ None
none_owned zero k = refl
none_owned (suc m) zero = refl
none_owned (suc m) (suc k) = none_owned m k

pub arrays_ready : (K : Cells) (ev : List ℕ) (n m : ℕ) → length ev ≡ evidence_words K → Blank ev → bits * row_width K * row_width K ≤ n → bits * row_width K ≤ m
    → Roomy K ev (replicate n 0) (replicate m None) × Fresh ev (replicate m None)
arrays_ready K ev n m long none room rows = (
  record {
    evidence = long;
    boundaries = omega (arith, length-replicate {A = ℕ} n 0);
    owners = omega (arith, length-replicate {A = Option ℕ} m None);
  },
  record { no_rows = none; no_owners = none_owned m },
)

-- `row_boundary` meets its contract. The loop's invariant: the set is the boundary of the words passed. Assumes nothing.
use Prim.Native.Nat.{ℕ, ◌<◌, ◌^◌}
use mathlib.Core.Path.{◌≡◌}
use lib.ListN.{length, get_or}
use Rattle.bitset.specs.Bits.{full_width}
use Rattle.rows.specs.Seen.{cells_of}
use Rattle.rows.specs.Rows.{row_of}
use Rattle.rows.proofs.RowAdding.{WordsAdded}
use Rattle.rows.proofs.Evidence.row_boundary.Given as goal

abbrev pub invariant-loop-w : goal.invariant-loop-w
invariant-loop-w l =
    let K = cells_of l.self.view in
    (length l.b ≡ full_width) × ((i : ℕ) → get_or l.b i 0 < 2 ^ 64) × WordsAdded K (row_of K l.self.words.now l.c) l.w l.b

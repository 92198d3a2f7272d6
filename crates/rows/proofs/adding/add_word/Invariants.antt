-- `add_word` meets its contract. The invariant: what is added, with the faces of the bits that are left, is what the contract adds.
-- The measure: the word of the bits that are left, which falls. Assumes nothing.

use Prim.Native.Nat.{ℕ, ◌^◌, ◌<◌}
use lib.ListN.{get_or}
use Rattle.rows.specs.Seen.{cells_of}
use Rattle.rows.proofs.WordBits.{WordLeft}
use Rattle.rows.proofs.adding.add_word.Given as goal

abbrev pub invariant-loop-v : goal.invariant-loop-v
invariant-loop-v l = ((i : ℕ) → get_or l.into i 0 < 2 ^ 64) × WordLeft (cells_of l.view) l.w l.word l.v l.initial.into l.into

abbrev pub decreases-loop-v : goal.decreases-loop-v
decreases-loop-v l = l.v

-- `add_words` meets its contract. The invariant: the words passed are sums, the others are as they came. Assumes nothing.
use Rattle.std.proofs.Common.{◌≡◌, ℕ, ◌≤◌, ◌<◌, slice_index, bit_xor}
use Rattle.bitset.proofs.add_words.Given as goal

abbrev pub invariant-loop-w : goal.invariant-loop-w
invariant-loop-w l =
    ((k : ℕ) → k < l.w → slice_index l.into k ≡ bit_xor (slice_index l.initial.into k) (slice_index l.from k))
    × ((k : ℕ) → l.w ≤ k → slice_index l.into k ≡ slice_index l.initial.into k)

-- Adding word by word: a list whose words are the sums is the sum of the two sets. Assumes nothing.
use mathlib.Core.Path.{◌≡◌, sym, ◌∙◌}
use mathlib.Core.List.{List}
use Prim.Native.Nat.{ℕ, ◌<◌}
use native.Mathlib.Omega.{arith}
use lib.Bits.{bit_xor}
use lib.ListN.{length, get_or}
use lib.Seq.{ext_get_or}
use Rattle.bitset.specs.Bits.{sum_of}
use Rattle.bitset.proofs.Marks.{length_sum, sum_at}

pub sum_by_words : (x y z : List ℕ) → length x ≡ length y → length z ≡ length x → ((k : ℕ) → k < length x → get_or z k 0 ≡ bit_xor (get_or x k 0) (get_or y k 0)) → z ≡ sum_of x y
sum_by_words x y z e long sums =
    ext_get_or 0 z (sum_of x y) (long ∙ sym (length_sum x y)) (λ k g. sums k (omega arith) ∙ sym (sum_at x y e k))

-- `add_words` meets its contract. The invariant: the words passed are sums, the others are as they came. Assumes nothing.
use Rattle.std.proofs.Common.{arith}
use Rattle.bitset.proofs.Adding.{sum_by_words}
use Rattle.bitset.proofs.add_words.Goals as goal

pub returns : goal.returns
returns c = sum_by_words _ _ _ c.requires (omega arith) (λ k h. c.loop-w.invariant.0 k (omega arith))

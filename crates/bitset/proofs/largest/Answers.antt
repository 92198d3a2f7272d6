-- `largest` meets its contract: the top bit of the last word that is not 0. Assumes nothing.
use Rattle.std.proofs.Common.{arith, rules, None}
use Rattle.std.proofs.lemmas.Grind.{common_steps}
use Rattle.bitset.specs.Bits.{LargestIs}
use Rattle.bitset.proofs.LargestMember.{top_bit_is_largest}
use Rattle.bitset.proofs.Marks.{mark_of_zero_word}
use Rattle.bitset.proofs.largest.Goals as goal

pub returns-in_err-last : goal.returns-in_err-last
returns-in_err-last c =
    let ws = c.args.ws.now in
    let none : LargestIs ws None = λ s. mark_of_zero_word ws s (search (rules, common_steps)) in
    search rules

pub returns : goal.returns
returns c =
    let w = c.in_ok-last.last in
    top_bit_is_largest c.args.ws.now w c.ilog2.result c.in_ok-last.ensures.inside (omega (arith, c.ilog2.ensures.bound)) c.ilog2.ensures.power_le c.ilog2.ensures.next_power_gt (λ k h. search (rules, common_steps))

-- `has` meets its contract: a word inside by its digit, one past the end by `mark_past`. Assumes nothing.
use Rattle.std.proofs.Common.{sym, arith, rules}
use Rattle.std.proofs.lemmas.Grind.{common_steps}
use Rattle.bitset.specs.Bits.{digit, mark, member}
use Rattle.bitset.proofs.Marks.{mark_past, false_member}
use Rattle.bitset.proofs.has.Goals as goal

pub returns-in-Some : goal.returns-in-Some
unfolding member mark digit
returns-in-Some c = search rules

pub returns-in-None : goal.returns-in-None
returns-in-None c = sym (false_member c.args.ws.now c.args.c (mark_past c.args.ws.now c.args.c (grind (arith, common_steps))))

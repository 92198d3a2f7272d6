-- `toggle` meets its contract: `1 << b` is `2 ^ b` for a bit of a word. Assumes nothing.
use Rattle.bitset.proofs.LowBit.{toggled_by_shift}
use Rattle.bitset.proofs.toggle.Goals as goal

pub returns : goal.returns
returns c = toggled_by_shift c.args.ws.now c.args.c

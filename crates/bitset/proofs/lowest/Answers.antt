-- `lowest` meets its contract, by `trailing_is_lowest`. Assumes nothing.
use Rattle.bitset.proofs.LowBit.{trailing_is_lowest}
use Rattle.bitset.proofs.lowest.Goals as goal

pub returns : goal.returns
returns c = trailing_is_lowest c.args.v c.requires c.ranges.v.fits

-- `keep_row` meets its contract: the words copied are the row. Assumes nothing.
use Rattle.std.proofs.Common.{arith}
use Rattle.bitset.proofs.RowLaws.{row_put, length_row}
use Rattle.bitset.proofs.matrix.keep_row.Goals as goal

pub returns : goal.returns
returns c = grind (arith, row_put, length_row)

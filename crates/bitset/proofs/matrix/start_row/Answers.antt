-- `start_row` meets its contract: the row with one number put in or taken out is written back. Assumes nothing.
use Rattle.std.proofs.Common.{arith}
use Rattle.bitset.proofs.RowLaws.{row_put, length_row}
use Rattle.bitset.proofs.Marks.{length_toggled}
use Rattle.bitset.proofs.matrix.start_row.Goals as goal

pub returns : goal.returns
returns c = grind (arith, row_put, length_row, length_toggled)

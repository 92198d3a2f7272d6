-- `add_row` meets its contract: the words are split at the row, and the earlier one is added to it. Assumes nothing.
use Rattle.bitset.proofs.RowLaws.{row_added}
use Rattle.bitset.proofs.matrix.add_row.Goals as goal

pub returns : goal.returns
returns c =
    let parts = c.split_at_mut-earlier.ensures in
    row_added _ _ _ _ _ _ _ c.requires.a_lt_c c.requires.w_in_bounds parts.front parts.back cc

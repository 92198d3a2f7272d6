-- `row` meets its contract: the width that the code goes by is the rows'. Assumes nothing.
use mathlib.Core.Path.{ap, ◌∙◌}
use Rattle.bitset.specs.Bits.{words_for}
use Rattle.complex.specs.Cells.{cells}
use Rattle.rows.proofs.RowWords.{row_at_width}
use Rattle.rows.proofs.row.Goals as goal

pub returns : goal.returns
returns c =
    let a = c.args in
    c.row.ensures ∙ row_at_width (cells a.t.now) a.evidence.now a.c _ (c.words_for.ensures ∙ ap words_for c.size.ensures)

-- `keeps_a` meets its contract: the words that it hands on are row c. Assumes nothing.
use mathlib.Core.Path.{ap, ◌∙◌}
use native.Mathlib.Omega.{arith}
use lib.ListN.{length}
use Rattle.rows.specs.Seen.{cells_of}
use Rattle.rows.proofs.RowWords.{row_width_fits, length_row_of}
use Rattle.checker.specs.Row.{row_keeps}
use Rattle.checker.proofs.Rules.{keeps_a_of_words}
use Rattle.checker.proofs.keeps_a.Goals as goal

pub row_keeps-requires-clause-row_len_bound : goal.row_keeps-requires-clause-row_len_bound
row_keeps-requires-clause-row_len_bound c =
    let K = cells_of c.args.evidence.view in
    let wide = length_row_of K c.args.evidence.words.now c.args.evidence.fits c.args.c c.requires.c_bound in
    omega (arith, ap length c.row.ensures, wide, row_width_fits K c.args.evidence.view.frame.room)

pub returns : goal.returns
returns c =
    let K = cells_of c.args.evidence.view in
    c.row_keeps.ensures
    ∙ ap (row_keeps K c.args.c) c.row.ensures
    ∙ keeps_a_of_words K c.args.evidence.words.now c.args.evidence.fits c.args.c c.requires.c_bound

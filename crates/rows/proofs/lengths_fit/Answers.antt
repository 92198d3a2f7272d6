-- `lengths_fit` meets its contract: the length of the table decides, then the product. Assumes nothing.
use mathlib.Core.Path.{sym, ◌∙◌}
use native.Mathlib.Omega.{arith}
use Rattle.rows.proofs.Lengths.{no_table_fits, table_fits, product_small}
use Rattle.rows.proofs.lengths_fit.Goals as goal

pub overflow_mul-result : goal.overflow_mul-result
overflow_mul-result c =
    omega (arith, product_small _ _ _ (sym c.fits.ensures ∙ c.if-not-fits.false) c.room-n.ensures c.words_for.ensures)

pub returns-then-not-fits : goal.returns-then-not-fits
returns-then-not-fits c = no_table_fits c.args.t.now c.args.evidence.now (sym c.fits.ensures ∙ c.if-not-fits.true)

pub returns : goal.returns
returns c = table_fits c.args.t.now c.args.evidence.now _ _ (sym c.fits.ensures ∙ c.if-not-fits.false) c.room-n.ensures c.words_for.ensures

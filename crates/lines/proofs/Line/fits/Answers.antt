-- `fits` meets its contract: each number is tested at its place. Assumes nothing.
use mathlib.Core.Path.{ap, ◌∙◌}
use Rattle.std.proofs.Common.{rules}
use borrow.Author.Tests.{tests}
use Rattle.std.proofs.lemmas.Iterator.{YieldsList-from_slice}
use Rattle.std.proofs.lemmas.Iterator.Consumers.{YieldsList-from_enumerate}
use Rattle.std.proofs.lemmas.Iterator.Search.{all_from_yields_List}
use Rattle.partlist.specs.Indices.{line_fits}
use Rattle.lines.proofs.Fits.{fits_at, all_fit}
use Rattle.lines.proofs.Line.fits.Goals as goal

pub returns : goal.returns
returns c =
    let xs = c.numbers-numbers.result.now in
    all_from_yields_List (fits_at c.args.n xs) _ _ _ c.all.ensures.ran (YieldsList-from_enumerate (YieldsList-from_slice xs cc) (cc)) (λ x b q k. search (rules, tests))
    ∙ all_fit c.args.n xs
    ∙ ap (line_fits c.args.n) c.numbers-numbers.ensures

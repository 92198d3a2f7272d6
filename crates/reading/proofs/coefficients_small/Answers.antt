-- `reading::coefficients_small` meets its contract: the chain tests each coefficient. Assumes nothing.
use Rattle.std.proofs.Common.{rules, ◌≡◌, true, false}
use borrow.Author.Tests.{tests}
use lib.IntN.{nat_abs}
use lib.Dec.{leb}
use Rattle.std.proofs.lemmas.Iterator.{cases_from_all, YieldsList-from_slice}
use Rattle.reading.specs.Boundary.{limit}
use Rattle.reading.proofs.Testing.{small_all}
use Rattle.reading.proofs.coefficients_small.Goals as goal

pub returns : goal.returns
returns c =
    small_all _ _
    (cases_from_all _ _ _ (λ z. leb (nat_abs z) limit ≡ true) (λ z. leb (nat_abs z) limit ≡ false) c.all.ensures.ran (YieldsList-from_slice c.args.chain.now cc) (λ x q k. search (rules, tests)) (λ x q k. search (rules, tests)))

-- `reading::coefficients_placed` meets its contract: the chain tests each number with its coefficient. Assumes nothing.
use Rattle.std.proofs.Common.{rules}
use borrow.Author.Tests.{tests}
use Rattle.std.proofs.lemmas.Iterator.{cases_from_all, YieldsList-from_slice}
use Rattle.std.proofs.lemmas.Iterator.Consumers.{YieldsList-from_enumerate}
use Rattle.reading.proofs.Testing.{IsPlaced, IsMisplaced, placed_all}
use Rattle.reading.proofs.coefficients_placed.Goals as goal

pub returns : goal.returns
returns c =
    let a = c.args in
    placed_all a.t.now a.chain.now a.p c.requires.0 c.requires.1 _
    (cases_from_all _ _ _ (IsPlaced a.t.now a.p) (IsMisplaced a.t.now a.p) c.all.ensures.ran (YieldsList-from_enumerate (YieldsList-from_slice a.chain.now (cc)) cc) (λ x q k. search (rules, tests)) (λ x q k. search (rules, tests)))

-- `reading::lengths_fit` meets its contract: each way out decides one of the three lengths. Assumes nothing.
use Rattle.std.proofs.Common.{rules}
use borrow.Author.Tests.{tests}
use Rattle.reading.specs.Boundary.{lengths_fit}
use Rattle.reading.proofs.lengths_fit.Goals as goal

pub returns-then-chain-n : goal.returns-then-chain-n
unfolding lengths_fit
returns-then-chain-n c = search (rules, tests)

pub returns-else-chain-n : goal.returns-else-chain-n
unfolding lengths_fit
returns-else-chain-n c = search (rules, tests)

-- `holes_of` meets its contract: each call of the closure gives the difference at its place. Assumes nothing.
use Rattle.std.proofs.Common.{rules, tests}
use Rattle.checker.proofs.Tallies.{differences_made}
use Rattle.checker.proofs.holes_of.Goals as goal

pub returns : goal.returns
returns c = differences_made _ _ _ _ _ (λ i y q k. search (rules, tests)) c.from_fn.ensures.items

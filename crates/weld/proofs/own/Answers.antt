-- `weld::own` meets its contract. The invariant: the words below c are their own numbers. Assumes nothing.
use Rattle.weld.proofs.Writing.{own_all}
use borrow.Author.Rules.{rules}
use Rattle.weld.proofs.own.Goals as goal

pub returns : goal.returns
returns c = own_all _ _ _ _ (search rules) (search rules) c.loop-c.invariant

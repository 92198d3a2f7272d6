-- `merge::join` meets its contract. The invariant: the pass stands before record c. Assumes nothing.
use borrow.Author.Rules.{rules}
use lib.ListN.{get_or-replicate}
use Rattle.table.specs.Kind.{faces, free_mark}
use Rattle.merge.proofs.Passes.{begins_none, begun_start, begun_more, partly_end}
use Rattle.merge.proofs.join.Goals as goal

pub loop-c-init : goal.loop-c-init
loop-c-init c = begun_start _ _ _ c.requires.2

pub rename-requires : goal.rename-requires
rename-requires c = (search rules, begins_none _ _ _ _ _ _ (search rules) c.loop-c.invariant)

pub loop-c-preserved : goal.loop-c-preserved
loop-c-preserved c = begun_more _ _ _ _ _ _ (search rules) c.loop-c.invariant c.rename.ensures

pub returns : goal.returns
returns c =
    partly_end _ _ _ _ _ _ _ c.requires.0 (search rules) c.loop-c.invariant.done c.put.ensures
    (λ j h. get_or-replicate faces j free_mark 0 h)

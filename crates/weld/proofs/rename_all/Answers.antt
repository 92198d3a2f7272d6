-- `weld::rename_all` meets its contract. The invariant: the records below c are renamed. Assumes nothing.
use borrow.Author.Rules.{rules}
use Rattle.weld.proofs.Writing.{partly_start, renamable_here, partly_more, partly_all, renamed_as}
use Rattle.weld.proofs.rename_all.Goals as goal

pub loop-c-init : goal.loop-c-init
loop-c-init c = partly_start _ _ c.requires.0.sized

pub rename-requires : goal.rename-requires
rename-requires c =
    let l = c.loop-c in
    renamable_here _ _ l.c l.t _ c.requires.0 (search rules) c.requires.1 l.auto.t l.invariant

pub loop-c-preserved : goal.loop-c-preserved
loop-c-preserved c =
    let l = c.loop-c in
    partly_more _ _ _ _ _ (search rules) l.invariant (renamed_as _ _ _ _ _ l.auto.t c.rename.ensures)

pub returns : goal.returns
returns c = partly_all _ _ _ _ (search rules) c.loop-c.invariant

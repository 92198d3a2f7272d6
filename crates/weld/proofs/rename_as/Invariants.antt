-- `weld::rename_as` meets its contract. The invariant: the faces below j are sent to their images, and the rest of the record is as it
-- was. Assumes nothing.
use Rattle.table.specs.Table.{face}
use Rattle.table.proofs.Stores.{Faced}
use Rattle.weld.specs.Maps.{held_by}
use Rattle.weld.proofs.rename_as.Given as goal

abbrev pub invariant-loop-j : goal.invariant-loop-j
invariant-loop-j g l = Faced l.c (λ i. held_by l.k l.initial.t (face l.initial.t l.c i)) l.initial.t l.j l.t

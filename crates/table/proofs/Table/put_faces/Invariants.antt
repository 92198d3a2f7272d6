-- `table::Table::put_faces` meets its contract. The invariant: the faces below j of record c are written, every other word is the old one.
-- Assumes nothing.
use lib.ListN.{get_or}
use Rattle.table.proofs.Stores.{Faced}
use Rattle.table.proofs.Table.put_faces.Given as goal

abbrev pub invariant-loop-j : goal.invariant-loop-j
invariant-loop-j l = Faced l.c (λ k. get_or l.x-items k 0) l.initial.t l.j l.t

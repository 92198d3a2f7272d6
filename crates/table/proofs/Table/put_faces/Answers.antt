-- `table::Table::put_faces` meets its contract. The invariant: the faces below j of record c are written, every other word is the old one.
-- Assumes nothing.
use mathlib.Core.Path.{refl}
use Rattle.table.proofs.Stores.{faced_more}
use Rattle.table.proofs.Table.put_faces.Goals as goal

pub loop-j-preserved : goal.loop-j-preserved
loop-j-preserved c = faced_more _ _ _ c.loop-j.t _ c.loop-j.j _ refl c.loop-j.invariant c.put_face.ensures

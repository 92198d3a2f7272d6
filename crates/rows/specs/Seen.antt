-- What a view stands for: the table as evidence sees it, and its cells.
-- A reader must believe these definitions; nothing here is proved.
use Rattle.homology.specs.Cells.{Cells}
use Rattle.complex.specs.View.{View as Seen, view_of}
use Rattle.complex.specs.Cells.{cells}
use Rattle.rows.specs.declared.view.View.{View}

abbrev pub seen : View → Seen
seen v = view_of v.words.now

abbrev pub cells_of : View → Cells
cells_of v = cells v.words.now

-- The cells of a table with their mod 2 faces, for the hole numbers of `homology`: cell c has u as a face an odd number of times.
-- They are those of the table's view (View.antt): its records, its live cells, their dimensions, and `odd_face` over its used places.
-- A reader must believe these definitions; nothing here is proved.
use Rattle.std.specs.Prelude.{List, ℕ}
use Rattle.homology.specs.Cells.{Cells}
use Rattle.complex.specs.View.{view_of, viewed}

abbrev pub cells : List ℕ → Cells
cells t = viewed (view_of t)

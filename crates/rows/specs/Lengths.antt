-- Evidence of the length for a table.
-- A reader must believe these definitions; nothing here is proved.
use Rattle.std.specs.Prelude.{Bool, ◌&&◌, List, ℕ, eqb, length}
use Rattle.table.specs.Table.{sized}
use Rattle.complex.specs.Cells.{cells}
use Rattle.rows.specs.Rows.{evidence_words}

abbrev pub evidence_fits : List ℕ → List ℕ → Bool
evidence_fits t ev = eqb (length ev) (evidence_words (cells t))

-- the lengths are a table's and that of evidence for it
abbrev pub lengths_fit : List ℕ → List ℕ → Bool
lengths_fit t ev = sized t && evidence_fits t ev

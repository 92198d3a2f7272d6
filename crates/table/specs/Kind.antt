-- The numbers of the table kind, each named once, and how many face words a record uses.
-- A reader must believe these definitions; nothing here is proved.
use Rattle.std.specs.Prelude.{ℕ, ◌+◌, leb, eqb}
use Rattle.counting.specs.Counting.{pick}

-- the most cells that a table has room for
abbrev pub capacity : ℕ
capacity = 512

-- the largest dimension
abbrev pub top : ℕ
top = 6

-- dimensions, from 0 to the largest
abbrev pub dimensions : ℕ
dimensions = top + 1

-- face words in a record
abbrev pub faces : ℕ
faces = 7

-- words in a record: the dimension, then the faces
abbrev pub width : ℕ
width = faces + 1

-- what stands in every word of a free record, and in the unused words of a live one
abbrev pub free_mark : ℕ
free_mark = 65535

-- A p-cell with p from 1 to 6 has p + 1 faces. A 0-cell has none, and a word 0 above 6 is no dimension.
abbrev pub used : ℕ → ℕ
used p = pick (eqb p 0) 0 (pick (leb p top) (p + 1) 0)

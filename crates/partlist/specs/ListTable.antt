-- The table of a list of cells: cell c is entry c, and its face j is the number of the entry without corner j.
-- A reader must believe these definitions; nothing here is proved.
use Rattle.std.specs.Prelude.{Bool, true, false, List, [], ◌∷◌, ℕ, zero, suc, ◌-◌, length, get_or, ltb}
use Rattle.counting.specs.Counting.{pick}
use Rattle.table.specs.Kind.{free_mark, used}
use Rattle.table.specs.Records.{Record, table_of}
use Rattle.partlist.specs.Sorting.{Compared, less, same, more}
use Rattle.partlist.specs.Cells.{compared_cells}

-- a list without its place j
unfoldable pub without : ℕ → List ℕ → List ℕ
without j [] = []
without zero (a ∷ l) = l
without (suc j) (a ∷ l) = a ∷ without j l

abbrev pub is_same : Compared → Bool
is_same less = false
is_same same = true
is_same more = false

-- the number of the cell with corners σ
unfoldable pub number_in : List (List ℕ) → List ℕ → ℕ
number_in [] σ = 0
number_in (c ∷ cs) σ = pick (is_same (compared_cells σ c)) 0 (suc (number_in cs σ))

-- the corners of cell c
abbrev pub corners_at : List (List ℕ) → ℕ → List ℕ
corners_at cs c = get_or cs c []

-- word 0 and face j of record c
unfoldable pub dim_at : List (List ℕ) → ℕ → ℕ
dim_at cs c = pick (ltb c (length cs)) (length (corners_at cs c) - 1) free_mark

unfoldable pub face_at : List (List ℕ) → ℕ → ℕ → ℕ
face_at cs c j = pick (ltb j (used (dim_at cs c))) (number_in cs (without j (corners_at cs c))) free_mark

abbrev pub cell_at : List (List ℕ) → ℕ → Record
cell_at cs c = record { dim = dim_at cs c; face = face_at cs c }

-- n records: the cells of cs, then free records
unfoldable pub list_table : ℕ → List (List ℕ) → List ℕ
list_table n cs = table_of n (cell_at cs)

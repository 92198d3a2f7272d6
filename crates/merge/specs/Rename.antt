-- Renaming cells by a map on cell numbers: a cell that is its own image keeps its record, with each face sent through the map;
-- any other record becomes free. Identification of two cells is such a map.
-- A reader must believe these definitions; nothing here is proved.
use Rattle.std.specs.Prelude.{List, ℕ, min, max, eqb}
use Rattle.counting.specs.Counting.{pick}
use Rattle.table.specs.Table.{cells_of, dim, face}
use Rattle.table.specs.Records.{table_of, free_record}

unfoldable pub renamed : (ℕ → ℕ) → List ℕ → List ℕ
renamed ρ t =
    table_of (cells_of t) (λ c. pick (eqb (ρ c) c) (record { dim = dim t c; face = λ j. ρ (face t c j) }) free_record)

-- the map that sends the larger of two numbers to the smaller, and every other number to itself
unfoldable pub identify : ℕ → ℕ → ℕ → ℕ
identify a b c = pick (eqb c (max a b)) (min a b) c

-- The map of a weld, level by level: the two cells are joined; then, from their dimension down to 1, each cell is joined with its image
-- face by face. A reader need not believe this file: proofs/ ties it to Weld.antt.
use Rattle.std.specs.Prelude.{List, ℕ, zero, suc}
use Rattle.counting.specs.Counting.{pick}
use Rattle.table.specs.Kind.{used}
use Rattle.table.specs.Table.{cells_of, dim, face, is_cell}
use Rattle.merge.specs.Rename.{identify}

-- the classes of x and y become one
unfoldable pub joined : (ℕ → ℕ) → ℕ → ℕ → ℕ → ℕ
joined κ x y c = identify (κ x) (κ y) (κ c)

-- the faces of c and d, at the places below n
unfoldable pub join_places : List ℕ → ℕ → ℕ → ℕ → (ℕ → ℕ) → ℕ → ℕ
join_places t c d zero κ = κ
join_places t c d (suc j) κ = joined (join_places t c d j κ) (face t c j) (face t d j)

-- all their faces
abbrev pub join_faces : List ℕ → ℕ → ℕ → (ℕ → ℕ) → ℕ → ℕ
join_faces t c d = join_places t c d (used (dim t c))

-- a q-cell with its image
unfoldable pub join_cell : List ℕ → ℕ → ℕ → (ℕ → ℕ) → ℕ → ℕ
join_cell t q c κ = pick (is_cell t q c) (join_places t c (κ c) (used q) κ) κ

-- the q-cells below n
unfoldable pub join_cells : List ℕ → ℕ → ℕ → (ℕ → ℕ) → ℕ → ℕ
join_cells t q zero κ = κ
join_cells t q (suc c) κ = join_cell t q c (join_cells t q c κ)

-- all of them
abbrev pub join_level : List ℕ → ℕ → (ℕ → ℕ) → ℕ → ℕ
join_level t q = join_cells t q (cells_of t)

-- the dimensions from q down to 1
unfoldable pub join_levels : List ℕ → ℕ → (ℕ → ℕ) → ℕ → ℕ
join_levels t zero κ = κ
join_levels t (suc q) κ = join_levels t q (join_level t (suc q) κ)

unfoldable pub weld_map : List ℕ → ℕ → ℕ → ℕ → ℕ
weld_map t a b = join_levels t (dim t a) (joined (λ c. c) a b)

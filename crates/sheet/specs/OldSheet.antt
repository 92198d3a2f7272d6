-- The sheet test as it was before it counted places: each n-cell that has u as a face is one wing of u, at however many places it
-- names u. Nothing computes this; proofs/Agreement.antt says when it and the test of today agree.
-- A reader must believe these definitions; nothing here is proved.
use Rattle.std.specs.Prelude.{◌≡◌, ◌&&◌, List, ℕ, ◌<◌}
use Rattle.counting.specs.Counting.{how_many}
use Rattle.table.specs.Kind.{used}
use Rattle.table.specs.Table.{cells_of, dim, face, Live, is_cell}
use Rattle.sheet.specs.Sheet.{has_face, SheetBy}

-- how many n-cells have u as a face
unfoldable pub old_wings : List ℕ → ℕ → ℕ → ℕ
old_wings t n u = how_many (λ c. is_cell t n c && has_face t c u) (cells_of t)

abbrev pub IsOldSheet : List ℕ → ℕ → Type 0
IsOldSheet t n = SheetBy (old_wings t n) t n

-- no n-cell repeats a face
abbrev pub NoRepeats : List ℕ → ℕ → Type 0
NoRepeats t n =
    (c : ℕ) → Live t c → dim t c ≡ n → (j l : ℕ) → j < used (dim t c) → l < used (dim t c) → (j ≡ l → ⊥) → face t c j ≡ face t c l → ⊥

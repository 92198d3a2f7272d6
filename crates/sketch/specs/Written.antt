-- The file that a table is written as, and what the writer answers and leaves.
-- A reader must believe these definitions; nothing here is proved.
use Rattle.std.specs.Prelude.{List, [], ◌∷◌, ◌++◌, ℕ, length, drop, ltb}
use Rattle.counting.specs.Counting.{pick}
use Rattle.table.specs.Kind.{used, dimensions}
use Rattle.table.specs.Table.{cells_of, dim, face, is_cell, count_of}
use Rattle.audit.specs.Audit.{grounds}
use Rattle.calls.specs.Calls.{Ground, verdict}
use Rattle.calls.specs.declared.Refusal.TheVariants.{NoRoom}
use Rattle.calls.specs.Calls.{Verdict}
use Rattle.sketch.specs.Form.{two, four, pieces, body_start}

-- the record of cell c: its number, then its faces
unfoldable pub cell_bytes : List ℕ → ℕ → List ℕ
cell_bytes t c = two c ++ pieces (λ j. two (face t c j)) (used (dim t c))

-- the body of dimension p: its cells in rising number
unfoldable pub body_of : List ℕ → ℕ → List ℕ
body_of t p = pieces (λ c. pick (is_cell t p c) (cell_bytes t c) []) (cells_of t)

unfoldable pub contents_of : List ℕ → List ℕ
contents_of t = two (cells_of t) ++ pieces (λ p. two (count_of t p) ++ four (body_start (count_of t) p)) dimensions

-- the whole file
unfoldable pub file_of : List ℕ → List ℕ
file_of t = contents_of t ++ pieces (body_of t) dimensions

abbrev pub write_grounds : List ℕ → List ℕ → List Ground
write_grounds t target =
    grounds t (record { refusal = NoRoom; applies = ltb (length target) (length (file_of t)) } ∷ [])

unfoldable pub write_verdict : List ℕ → List ℕ → Verdict
write_verdict t target = verdict (write_grounds t target)

-- an accepted write: the file, and no byte after it touched
abbrev pub written : List ℕ → List ℕ → List ℕ
written t target = file_of t ++ drop (length (file_of t)) target

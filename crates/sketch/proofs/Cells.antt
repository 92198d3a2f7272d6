-- The written file, part by part: the body of dimension p is the records of its cells, first, second and so on.
-- What carries it: the pieces that stand only at p-cells are the pieces of the p-cells in their order. Assumes nothing.
use mathlib.Core.Path.{◌≡◌, ap, ◌∙◌}
use mathlib.Core.Bool.{true}
use mathlib.Core.List.{List, ◌++◌}
use Prim.Native.Nat.{ℕ, ◌<◌}
use Rattle.table.specs.Table.{cells_of, dim, face, is_cell, count_of}
use Rattle.counting.specs.Counting.{nth}
use Rattle.counting.proofs.Counting.{nth_has}
use Rattle.table.proofs.Dimensions.{cell_dim}
use Rattle.table.specs.Kind.{dimensions}
use Rattle.sketch.specs.Written.{cell_bytes, body_of, contents_of, file_of}
use Rattle.sketch.proofs.Pieces.{pieces_cong}
use Rattle.sketch.proofs.Picked.{pieces_picked}
use Rattle.sketch.proofs.Parts.{record_bytes, body_bytes, bodies_bytes, contents_bytes, layout}

module _ (t : List ℕ) where
  -- the i-th cell of dimension p, and its face j
  abbrev pub cell_at : ℕ → ℕ → ℕ
  cell_at p i = nth (is_cell t p) (cells_of t) i

  abbrev pub face_at : ℕ → ℕ → ℕ → ℕ
  face_at p i j = face t (cell_at p i) j

  pub cell_at_is : (p i : ℕ) → i < count_of t p → is_cell t p (cell_at p i) ≡ true
  unfolding count_of
  cell_at_is p i h = nth_has (is_cell t p) (cells_of t) i h

  pub record_is : (p c : ℕ) → dim t c ≡ p → cell_bytes t c ≡ record_bytes p c (face t c)
  unfolding cell_bytes
  record_is p c e = ap (λ q. record_bytes q c (face t c)) e

  pub body_is : (p : ℕ) → body_of t p ≡ body_bytes p (count_of t p) (cell_at p) (face_at p)
  unfolding body_of count_of
  body_is p =
      pieces_picked (is_cell t p) (cell_bytes t) (cells_of t)
      ∙ pieces_cong (λ i. cell_bytes t (cell_at p i)) (λ i. record_bytes p (cell_at p i) (face_at p i)) (count_of t p)
      (λ i l. record_is p (cell_at p i) (cell_dim t p (cell_at p i) (cell_at_is p i l)))

  pub file_is : file_of t ≡ layout (cells_of t) (count_of t) cell_at face_at
  unfolding file_of contents_of
  file_is =
      ap (λ x. contents_bytes (cells_of t) (count_of t) ++ x)
      (pieces_cong (body_of t) (bodies_bytes (count_of t) cell_at face_at) dimensions (λ p l. body_is p))

-- A file that fits, rewritten from the table that it describes, is the same bytes.
-- What carries it: the p-cells of the table are the numbers of body p, and these rise. Assumes nothing.
use mathlib.Core.Path.{◌≡◌, ap, sym, ◌∙◌}
use mathlib.Core.Bool.{true}
use mathlib.Core.List.{List}
use Prim.Native.Nat.{ℕ, ◌<◌}
use native.Mathlib.Omega.{arith}
use lib.ListN.{get_or}
use Rattle.table.specs.Kind.{used, dimensions}
use Rattle.table.specs.Table.{cells_of, dim, face, is_cell, count_of}
use Rattle.counting.specs.Counting.{how_many, nth}
use Rattle.sketch.specs.Written.{file_of}
use Rattle.sketch.specs.Read.{count_in, number_in, face_in, described}
use Rattle.sketch.proofs.Parts.{layout_cong}
use Rattle.sketch.proofs.Laid.{laid_layout}
use Rattle.table.proofs.Dimensions.{cell_dim, cell_says}
use Rattle.sketch.proofs.Cells.{cell_at, face_at, file_is}
use Rattle.sketch.proofs.Fits.{Fits, Numbered}
use Rattle.sketch.proofs.Rising.{rising_nth, rising_count}
use Rattle.sketch.proofs.Readings.{fits_laid}
use Rattle.sketch.proofs.Bodies.{body_one, in_body_lem, dim_in_number}
use Rattle.sketch.proofs.Described.{described_cells, described_dim, described_record}

module _ (n : ℕ) (f : List ℕ) (w : Numbered n f) where
  abbrev table : List ℕ
  table = described n f

  -- the cells of dimension p are the numbers of body p
  number_cell : (p i : ℕ) → p < dimensions → i < count_in f p → is_cell table p (number_in f p i) ≡ true
  number_cell p i h l =
      let c : ℕ = number_in f p i in
      let b : c < n = w.below p i h l in
      let e : dim table c ≡ p = described_dim n f c b ∙ dim_in_number f n w p i h l in
      cell_says table p c (record { inside = omega (arith, described_cells n f); low = omega arith }) e

  cell_number : (p : ℕ) → p < dimensions → (c : ℕ) → c < n → is_cell table p c ≡ true → (i : ℕ) × (i < count_in f p) × (number_in f p i ≡ c)
  cell_number p h c b e =
      body_one f p c (in_body_lem f p c h (sym (described_dim n f c b) ∙ cell_dim table p c e))

  pub back_count : (p : ℕ) → p < dimensions → count_of table p ≡ count_in f p
  unfolding count_of
  back_count p h =
      ap (how_many (is_cell table p)) (described_cells n f)
      ∙ rising_count (number_in f p) (count_in f p) (λ i. w.rising p i h) (is_cell table p) n (λ i. w.below p i h) (λ i. number_cell p i h) (cell_number p h)

  back_number : (p i : ℕ) → p < dimensions → i < count_in f p → cell_at table p i ≡ number_in f p i
  back_number p i h l =
      ap (λ m. nth (is_cell table p) m i) (described_cells n f)
      ∙ rising_nth (number_in f p) (count_in f p) (λ k. w.rising p k h) (is_cell table p) n (λ k. w.below p k h) (λ k. number_cell p k h) (cell_number p h) i l

  back_face : (p i j : ℕ) → p < dimensions → i < count_in f p → j < used p → face_at table p i j ≡ face_in f p i j
  back_face p i j h l m = ap (λ c. face table c j) (back_number p i h l) ∙ described_record n f w p i j h l m

  pub back_file : ((k : ℕ) → get_or f k 0 < 256) → Fits n f → file_of table ≡ f
  back_file bytes fits =
      file_is table
      ∙ layout_cong (cells_of table) n (count_of table) (count_in f) (cell_at table) (number_in f) (face_at table) (face_in f) (described_cells n f) back_count back_number back_face
      ∙ sym (laid_layout n (count_in f) (number_in f) (face_in f) f (fits_laid n f bytes fits))

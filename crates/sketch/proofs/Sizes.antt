-- How long the parts of a written file are, and where its bodies start.
-- What carries it: the counts together are at most N. Assumes nothing.
use mathlib.Core.Path.{◌≡◌, refl, ap, ◌∙◌}
use mathlib.Core.List.{List}
use Prim.Native.Nat.{ℕ, suc, ◌+◌, ◌*◌, ◌≤◌}
use native.Mathlib.Nat.{mul-le-mul_left}
use native.Mathlib.Omega.{arith}
use lib.ListN.{length, length-append}
use Rattle.table.specs.Kind.{capacity, top, dimensions}
use Rattle.table.specs.Table.{cells_of, dim, face, Sized, count_of}
use Rattle.counting.specs.Counting.{total}
use Rattle.table.proofs.Places.{used_fits}
use Rattle.table.proofs.Dimensions.{counts_fit}
use Rattle.sketch.specs.Form.{pieces, contents_size, record_size, body_start, longest}
use Rattle.sketch.specs.Written.{cell_bytes, body_of, contents_of, file_of}
use Rattle.counting.proofs.Totals.{total_zero, total_suc, total_more, total_grows, total_less, total_scaled}
use Rattle.sketch.proofs.Pieces.{pieces_suc, pieces_cong}
use Rattle.sketch.proofs.Parts.{bodies_bytes, length_record_bytes, length_contents_bytes, body_place, length_layout}
use Rattle.sketch.proofs.Cells.{cell_at, face_at, record_is, body_is, file_is}

module _ (counts : ℕ → ℕ) where
  pub body_start_zero : body_start counts 0 ≡ contents_size
  unfolding body_start
  body_start_zero = omega (arith, total_zero (λ q. counts q * record_size q))

  pub body_start_more : (p : ℕ) → body_start counts (p + 1) ≡ body_start counts p + counts p * record_size p
  unfolding body_start
  body_start_more p = omega (arith, total_more (λ q. counts q * record_size q) p)

  pub body_start_suc : (p : ℕ) → body_start counts (suc p) ≡ body_start counts p + counts p * record_size p
  unfolding body_start
  body_start_suc p = omega (arith, total_suc (λ q. counts q * record_size q) p)

  -- bodies start one after the other, all of them after the contents
  pub body_start_grows : (p q : ℕ) → p ≤ q → body_start counts p ≤ body_start counts q
  unfolding body_start
  body_start_grows p q h = omega (arith, total_grows (λ r. counts r * record_size r) p q h)

  pub body_start_least : (p : ℕ) → contents_size ≤ body_start counts p
  unfolding body_start
  body_start_least p = omega arith

  -- a file of k cells in all has at most 16 bytes a cell after the contents
  pub body_start_most : (p k : ℕ) → total counts p ≤ k → body_start counts p ≤ contents_size + k * record_size top
  unfolding body_start
  body_start_most p k h =
      omega (
        arith,
        total_less (λ q. counts q * record_size q) (λ q. counts q * record_size top) p (λ q l. mul-le-mul_left (counts q) (record_most q)),
        total_scaled counts (record_size top) p,
        h,
      )
    where
      record_most : (q : ℕ) → record_size q ≤ record_size top
      record_most q = omega (arith, used_fits q)

module _ (t : List ℕ) where
  pub length_cell : (c : ℕ) → length (cell_bytes t c) ≡ record_size (dim t c)
  length_cell c = ap length (record_is t (dim t c) c refl) ∙ length_record_bytes (dim t c) c (face t c)

  pub length_contents : length (contents_of t) ≡ contents_size
  unfolding contents_of
  length_contents = length_contents_bytes (cells_of t) (count_of t)

  pub length_file : length (file_of t) ≡ body_start (count_of t) dimensions
  length_file = ap length (file_is t) ∙ length_layout (cells_of t) (count_of t) (cell_at t) (face_at t)

  -- the bodies before p end where body p starts
  pub bodies_place : (p : ℕ) → contents_size + length (pieces (body_of t) p) ≡ body_start (count_of t) p
  bodies_place p =
      ap (λ x. contents_size + length x) (pieces_cong (body_of t) (bodies_bytes (count_of t) (cell_at t) (face_at t)) p (λ q l. body_is t q))
      ∙ body_place (cells_of t) (count_of t) (cell_at t) (face_at t) p

  pub body_end : (p : ℕ) → body_start (count_of t) p + length (body_of t p) ≡ body_start (count_of t) (suc p)
  body_end p =
      omega (arith, bodies_place p, bodies_place (suc p), ap length (pieces_suc (body_of t) p), length-append (pieces (body_of t) p) (body_of t p))

  pub start_fits : (p : ℕ) → Sized t → body_start (count_of t) p ≤ longest
  start_fits p s = body_start_most (count_of t) p capacity (omega (arith, counts_fit t p, s.room))

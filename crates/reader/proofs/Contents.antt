-- What the test of the contents finds, way by way out of the code, and where bodies and records lie in a file whose contents fit.
-- What carries it: bodies start one after the other, the last ends with the file. Assumes nothing.
use mathlib.Core.Path.{◌≡◌, refl, ap, ap₂, sym, ◌∙◌}
use mathlib.Core.Bool.{true, false}
use mathlib.Core.List.{List}
use mathlib.Core.Logic.{⊎_elim}
use Prim.Native.Nat.{ℕ, ◌+◌, ◌*◌, ◌≤◌, ◌<◌}
use native.Mathlib.Nat.{add-mul, add_assoc, mul-le-mul_left, mul-le-mul_right}
use native.Mathlib.Omega.{arith}
use borrow.Author.Tests.{eq-eqb, ne_eqb}
use lib.ListN.{length}
use lib.Dec.{eqb}
use Rattle.table.specs.Kind.{top, dimensions}
use Rattle.counting.proofs.Cases.{not_true_false, same_or_not}
use Rattle.sketch.specs.Form.{two_at, four_at, contents_size, offset_place, record_size, body_start}
use Rattle.sketch.specs.Read.{count_in, record_in, contents_fit}
use Rattle.sketch.proofs.Fits.{Fits, contents_fit_lem, fit_contents}
use Rattle.sketch.proofs.Sizes.{body_start_more, body_start_grows}

-- the most bytes that a body can have, by a count of 16 bits
abbrev pub longest_body : ℕ
longest_body = 65535 * record_size top

-- no record is longer than that of the largest dimension
pub body_most : (k s : ℕ) → k < 65536 → s ≤ record_size top → k * s ≤ longest_body
body_most k s h l = let m : k * s ≤ k * record_size top = mul-le-mul_left k l in omega arith

module _ (n : ℕ) (f : List ℕ) where
  unfit : (Fits n f → ⊥) → false ≡ contents_fit n f
  unfit h = sym (not_true_false (contents_fit n f) (λ e. h (contents_fit_lem n f e)))

  pub unfit_short : length f < contents_size → false ≡ contents_fit n f
  unfit_short h = unfit (λ w. omega (arith, w.long))

  pub unfit_cells : (v : ℕ) → v ≡ two_at f 0 → (v ≡ n → ⊥) → false ≡ contents_fit n f
  unfit_cells v e h = unfit (λ w. h (e ∙ w.start))

  pub unfit_offset : (p v s : ℕ) → p < dimensions → v ≡ four_at f (offset_place p) → s ≡ body_start (count_in f) p → (v ≡ s → ⊥) → false ≡ contents_fit n f
  unfit_offset p v s l e i h = unfit (λ w. h (e ∙ w.offset p l ∙ sym i))

  -- all of it but the length, which decides
  pub fit_if_long :
      (p s : ℕ) → p ≡ dimensions → contents_size ≤ length f → two_at f 0 ≡ n →
      ((q : ℕ) → q < p → four_at f (offset_place q) ≡ body_start (count_in f) q) → s ≡ body_start (count_in f) p →
      eqb s (length f) ≡ contents_fit n f
  fit_if_long p s e long cells o i =
      let z : s ≡ body_start (count_in f) dimensions = i ∙ ap (body_start (count_in f)) e in
      ⊎_elim
      (λ y. eq-eqb s (length f) y ∙ sym (fit_contents n f (record { long = long; start = cells; offset = λ q h. o q (omega arith); size = sym y ∙ z })))
      (λ ne. ne_eqb s (length f) ne ∙ unfit (λ w. ne (z ∙ sym w.size)))
      (same_or_not s (length f))

module _ (f : List ℕ) where
  -- the start of the next body
  pub start_more : (p s k b : ℕ) → s ≡ body_start (count_in f) p → k ≡ count_in f p → b ≡ record_size p → s + k * b ≡ body_start (count_in f) (p + 1)
  start_more p s k b e i g = ap₂ ◌+◌ e (ap₂ ◌*◌ i g) ∙ sym (body_start_more (count_in f) p)

  -- the first record of a body, and the one after record i
  pub record_first : (p : ℕ) → record_in f p 0 ≡ body_start (count_in f) p
  unfolding record_in
  record_first p = omega arith

  pub record_next : (p i at s : ℕ) → at ≡ record_in f p i → s ≡ record_size p → at + s ≡ record_in f p (i + 1)
  unfolding record_in
  record_next p i at s e g =
      let d : (i + 1) * record_size p ≡ i * record_size p + 1 * record_size p = add-mul i 1 (record_size p) in
      ap₂ ◌+◌ e g ∙ add_assoc (body_start (count_in f) p) (i * record_size p) (record_size p)
      ∙ ap (λ x. body_start (count_in f) p + x) (omega arith)

  record_before_end : (p i : ℕ) → i < count_in f p → record_in f p (i + 1) ≤ body_start (count_in f) (p + 1)
  unfolding record_in
  record_before_end p i l =
      let m : (i + 1) * record_size p ≤ count_in f p * record_size p = mul-le-mul_right (record_size p) (omega arith) in
      omega (arith, body_start_more (count_in f) p)

  -- a record lies inside the file
  pub record_inside : (n p i at : ℕ) → contents_fit n f ≡ true → p < dimensions → i < count_in f p → at ≡ record_in f p i → at + record_size p ≤ length f
  record_inside n p i at w h l e =
      omega (
        arith,
        record_next p i at (record_size p) e refl,
        record_before_end p i l,
        (contents_fit_lem n f w).size,
        body_start_grows (count_in f) (p + 1) dimensions (omega arith),
      )

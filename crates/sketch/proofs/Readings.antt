-- What is read from a file that is laid out from its parts: the parts.
-- What carries it: each part stands at its place, and is small enough for its bytes. Assumes nothing.
use mathlib.Core.Path.{◌≡◌, ap, sym, subst, ◌∙◌}
use mathlib.Core.List.{List}
use Prim.Native.Nat.{ℕ, ◌+◌, ◌*◌, ◌≤◌, ◌<◌}
use native.Mathlib.Omega.{arith}
use lib.ListN.{get_or}
use Rattle.table.specs.Kind.{used, dimensions}
use Rattle.sketch.specs.Form.{two, four, two_at, count_place, offset_place, record_size, face_place, body_start}
use Rattle.sketch.specs.Read.{count_in, record_in, number_in, face_in}
use Rattle.sketch.proofs.Stands.{Stands, stands_two, stands_four, two_stands, four_stands}
use Rattle.sketch.proofs.Parts.{body_start_cong, Laid}
use Rattle.sketch.proofs.Sizes.{body_start_least}
use Rattle.sketch.proofs.Fits.{Fits}

-- parts that have room in their bytes
pub record Small (n : ℕ) (counts : ℕ → ℕ) (numbers : ℕ → ℕ → ℕ) (faces : ℕ → ℕ → ℕ → ℕ) : Type 0 where
  pub cells : n < 65536
  pub count : (p : ℕ) → p < dimensions → counts p < 65536
  pub start : (p : ℕ) → p < dimensions → body_start counts p < 4294967296
  pub number : (p i : ℕ) → p < dimensions → i < counts p → numbers p i < 65536
  pub word : (p i j : ℕ) → p < dimensions → i < counts p → j < used p → faces p i j < 65536

module _ (n : ℕ) (counts : ℕ → ℕ) (numbers : ℕ → ℕ → ℕ) (faces : ℕ → ℕ → ℕ → ℕ) (f : List ℕ) (small : Small n counts numbers faces) (laid : Laid n counts numbers faces f) where
  pub reads_count : (p : ℕ) → p < dimensions → count_in f p ≡ counts p
  unfolding count_in
  reads_count p h = stands_two f (count_place p) (counts p) (small.count p h) (laid.count p h)

  reads_start : (p : ℕ) → p ≤ dimensions → body_start (count_in f) p ≡ body_start counts p
  reads_start p h = body_start_cong (count_in f) counts p (λ q l. reads_count q (omega arith))

  reads_record : (p i : ℕ) → p < dimensions → record_in f p i ≡ body_start counts p + i * record_size p
  unfolding record_in
  reads_record p i h = ap (λ m. m + i * record_size p) (reads_start p (omega arith))

  pub reads_number : (p i : ℕ) → p < dimensions → i < counts p → number_in f p i ≡ numbers p i
  unfolding number_in
  reads_number p i h l =
      ap (two_at f) (reads_record p i h)
      ∙ stands_two f (body_start counts p + i * record_size p) (numbers p i) (small.number p i h l) (laid.number p i h l)

  pub reads_face : (p i j : ℕ) → p < dimensions → i < counts p → j < used p → face_in f p i j ≡ faces p i j
  unfolding face_in
  reads_face p i j h l k =
      ap (λ m. two_at f (m + face_place j)) (reads_record p i h)
      ∙ stands_two f (body_start counts p + i * record_size p + face_place j) (faces p i j) (small.word p i j h l k) (laid.face_word p i j h l k)

  pub reads_fits : Fits n f
  reads_fits =
      record {
        long = omega (arith, laid.size, body_start_least counts dimensions);
        start = stands_two f 0 n small.cells laid.start;
        offset = λ p h. stands_four f (offset_place p) (body_start counts p) (small.start p h) (laid.offset p h) ∙ sym (reads_start p (omega arith));
        size = laid.size ∙ sym (reads_start dimensions (omega arith));
      }

-- and a list of bytes whose contents fit is laid out from what is read
pub fits_laid : (n : ℕ) (f : List ℕ) → ((k : ℕ) → get_or f k 0 < 256) → Fits n f → Laid n (count_in f) (number_in f) (face_in f) f
unfolding count_in number_in face_in record_in
fits_laid n f bytes w =
    record {
      size = w.size;
      start = subst (λ v. Stands f 0 (two v)) w.start (two_stands f bytes 0);
      count = λ p h. two_stands f bytes (count_place p);
      offset = λ p h. subst (λ v. Stands f (offset_place p) (four v)) (w.offset p h) (four_stands f bytes (offset_place p));
      number = λ p i h l. two_stands f bytes (record_in f p i);
      face_word = λ p i j h l k. two_stands f bytes (record_in f p i + face_place j);
    }

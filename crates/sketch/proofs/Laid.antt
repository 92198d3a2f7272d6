-- A list is a file laid out from its parts exactly where each part stands at its place.
-- What carries it: parts stand one after the other exactly where the whole stands. Assumes nothing.
use mathlib.Core.Path.{◌≡◌, ap, sym, ◌∙◌}
use mathlib.Core.List.{List}
use Prim.Native.Nat.{ℕ, ◌+◌, ◌*◌, ◌<◌}
use native.Mathlib.Omega.{arith}
use lib.ListN.{length}
use Rattle.table.specs.Kind.{used, dimensions}
use Rattle.sketch.specs.Form.{two, four, pieces, count_place, offset_place, record_size, face_place, body_start}
use Rattle.sketch.proofs.Bytes.{length_two}
use Rattle.sketch.proofs.Pieces.{length_even}
use Rattle.sketch.proofs.Stands.{Stands, stands_whole, stands_is, stands_moved, stands_left, stands_right, stands_both, stands_piece, stands_pieces}
use Rattle.sketch.proofs.Parts.{record_bytes, entry_bytes, contents_bytes, bodies_bytes, layout, length_faces, length_record_bytes, length_entries, length_contents_bytes, length_layout, body_place, Laid}

module _ (n : ℕ) (counts : ℕ → ℕ) (numbers : ℕ → ℕ → ℕ) (faces : ℕ → ℕ → ℕ → ℕ) where
  abbrev file : List ℕ
  file = layout n counts numbers faces

  abbrev bodies : ℕ → List ℕ
  bodies = bodies_bytes counts numbers faces

  abbrev entries : ℕ → List ℕ
  entries = entry_bytes counts

  abbrev records : ℕ → ℕ → List ℕ
  records p i = record_bytes p (numbers p i) (faces p i)

  abbrev words : ℕ → ℕ → ℕ → List ℕ
  words p i j = two (faces p i j)

  entry_place : (p : ℕ) → 0 + length (two n) + length (pieces entries p) ≡ count_place p
  entry_place p = omega (arith, length_two n, length_entries counts p)

  offset_place_lem : (p : ℕ) → count_place p + length (two (counts p)) ≡ offset_place p
  offset_place_lem p = omega (arith, length_two (counts p))

  word_place : (p i j : ℕ) (place : ℕ) → place + length (two (numbers p i)) + length (pieces (words p i) j) ≡ place + face_place j
  word_place p i j place = omega (arith, length_two (numbers p i), length_faces (faces p i) j)

  bodies_place : (p : ℕ) → 0 + length (contents_bytes n counts) + length (pieces bodies p) ≡ body_start counts p
  bodies_place p = omega (arith, length_contents_bytes n counts, body_place n counts numbers faces p)

  record_place : (p i : ℕ) → length (pieces (records p) i) ≡ i * record_size p
  record_place p i = length_even (records p) (record_size p) i (λ k l. length_record_bytes p (numbers p k) (faces p k))

  -- the parts of a file that stands
  contents_stand : Stands file 0 (contents_bytes n counts)
  contents_stand = stands_left file 0 (contents_bytes n counts) (pieces bodies dimensions) (stands_whole file)

  entry_stands : (p : ℕ) → p < dimensions → Stands file (count_place p) (entries p)
  entry_stands p h =
      stands_moved file (0 + length (two n) + length (pieces entries p)) (count_place p) (entries p) (entry_place p)
      (stands_piece file entries (0 + length (two n)) dimensions (stands_right file 0 (two n) (pieces entries dimensions) contents_stand) p h)

  body_stands : (p : ℕ) → p < dimensions → Stands file (body_start counts p) (bodies p)
  body_stands p h =
      stands_moved file (0 + length (contents_bytes n counts) + length (pieces bodies p)) (body_start counts p) (bodies p) (bodies_place p)
      (stands_piece file bodies (0 + length (contents_bytes n counts)) dimensions (stands_right file 0 (contents_bytes n counts) (pieces bodies dimensions) (stands_whole file)) p h)

  record_stands : (p i : ℕ) → p < dimensions → i < counts p → Stands file (body_start counts p + i * record_size p) (records p i)
  record_stands p i h l =
      stands_moved file (body_start counts p + length (pieces (records p) i)) (body_start counts p + i * record_size p) (records p i)
      (ap (λ m. body_start counts p + m) (record_place p i))
      (stands_piece file (records p) (body_start counts p) (counts p) (body_stands p h) i l)

  face_stands : (p i j : ℕ) → p < dimensions → i < counts p → j < used p → Stands file (body_start counts p + i * record_size p + face_place j) (words p i j)
  face_stands p i j h l k =
      let place : ℕ = body_start counts p + i * record_size p in
      stands_moved file (place + length (two (numbers p i)) + length (pieces (words p i) j)) (place + face_place j) (words p i j) (word_place p i j place)
      (stands_piece file (words p i) (place + length (two (numbers p i))) (used p)
      (stands_right file place (two (numbers p i)) (pieces (words p i) (used p)) (record_stands p i h l)) j k)

  pub layout_laid : Laid n counts numbers faces file
  layout_laid =
      record {
        size = length_layout n counts numbers faces;
        start = stands_left file 0 (two n) (pieces entries dimensions) contents_stand;
        count = λ p h. stands_left file (count_place p) (two (counts p)) (four (body_start counts p)) (entry_stands p h);
        offset = λ p h. stands_moved file (count_place p + length (two (counts p))) (offset_place p) (four (body_start counts p)) (offset_place_lem p) (stands_right file (count_place p) (two (counts p)) (four (body_start counts p)) (entry_stands p h));
        number = λ p i h l. stands_left file (body_start counts p + i * record_size p) (two (numbers p i)) (pieces (words p i) (used p)) (record_stands p i h l);
        face_word = face_stands;
      }

  -- parts that stand at their places make a file that stands
  module _ (f : List ℕ) (laid : Laid n counts numbers faces f) where
    made_record : (p i : ℕ) → p < dimensions → i < counts p → Stands f (body_start counts p + i * record_size p) (records p i)
    made_record p i h l =
        let place : ℕ = body_start counts p + i * record_size p in
        stands_both f place (two (numbers p i)) (pieces (words p i) (used p)) (laid.number p i h l)
        (stands_pieces f (words p i) (place + length (two (numbers p i))) (used p)
        (λ j k. stands_moved f (place + face_place j) (place + length (two (numbers p i)) + length (pieces (words p i) j)) (words p i j) (sym (word_place p i j place)) (laid.face_word p i j h l k)))

    made_body : (p : ℕ) → p < dimensions → Stands f (body_start counts p) (bodies p)
    made_body p h =
        stands_pieces f (records p) (body_start counts p) (counts p)
        (λ i l. stands_moved f (body_start counts p + i * record_size p) (body_start counts p + length (pieces (records p) i)) (records p i) (ap (λ m. body_start counts p + m) (sym (record_place p i))) (made_record p i h l))

    made_entry : (p : ℕ) → p < dimensions → Stands f (count_place p) (entries p)
    made_entry p h =
        stands_both f (count_place p) (two (counts p)) (four (body_start counts p)) (laid.count p h)
        (stands_moved f (offset_place p) (count_place p + length (two (counts p))) (four (body_start counts p)) (sym (offset_place_lem p)) (laid.offset p h))

    made_contents : Stands f 0 (contents_bytes n counts)
    made_contents =
        stands_both f 0 (two n) (pieces entries dimensions) laid.start
        (stands_pieces f entries (0 + length (two n)) dimensions
        (λ p h. stands_moved f (count_place p) (0 + length (two n) + length (pieces entries p)) (entries p) (sym (entry_place p)) (made_entry p h)))

    made_file : Stands f 0 file
    made_file =
        stands_both f 0 (contents_bytes n counts) (pieces bodies dimensions) made_contents
        (stands_pieces f bodies (0 + length (contents_bytes n counts)) dimensions
        (λ p h. stands_moved f (body_start counts p) (0 + length (contents_bytes n counts) + length (pieces bodies p)) (bodies p) (sym (bodies_place p)) (made_body p h)))

    pub laid_layout : f ≡ file
    laid_layout = stands_is f file (laid.size ∙ sym (length_layout n counts numbers faces)) made_file

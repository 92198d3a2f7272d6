-- A file laid out from its parts: N, the counts, and for each body its numbers and faces.
-- A list is such a file exactly where each part stands at its place.
-- What carries it: parts stand one after the other. Assumes nothing.
use mathlib.Core.Path.{◌≡◌, ap, ap₂, ◌∙◌}
use mathlib.Core.List.{List, ◌++◌}
use Prim.Native.Nat.{ℕ, ◌+◌, ◌*◌, ◌<◌}
use native.Mathlib.Omega.{arith}
use lib.ListN.{length, length-append}
use Rattle.table.specs.Kind.{used, dimensions}
use Rattle.sketch.specs.Form.{two, four, pieces, entry_size, contents_size, count_place, offset_place, record_size, face_place, body_start}
use Rattle.sketch.proofs.Bytes.{length_two, length_four}
use Rattle.counting.proofs.Totals.{total_cong}
use Rattle.sketch.proofs.Pieces.{length_pieces, length_even, pieces_cong}
use Rattle.sketch.proofs.Stands.{Stands}

-- a record of dimension p, a body, an entry of the contents
abbrev pub record_bytes : ℕ → ℕ → (ℕ → ℕ) → List ℕ
record_bytes p c face = two c ++ pieces (λ j. two (face j)) (used p)

abbrev pub body_bytes : ℕ → ℕ → (ℕ → ℕ) → (ℕ → ℕ → ℕ) → List ℕ
body_bytes p k numbers faces = pieces (λ i. record_bytes p (numbers i) (faces i)) k

abbrev pub entry_bytes : (ℕ → ℕ) → ℕ → List ℕ
entry_bytes counts p = two (counts p) ++ four (body_start counts p)

abbrev pub contents_bytes : ℕ → (ℕ → ℕ) → List ℕ
contents_bytes n counts = two n ++ pieces (entry_bytes counts) dimensions

abbrev pub bodies_bytes : (ℕ → ℕ) → (ℕ → ℕ → ℕ) → (ℕ → ℕ → ℕ → ℕ) → ℕ → List ℕ
bodies_bytes counts numbers faces p = body_bytes p (counts p) (numbers p) (faces p)

abbrev pub layout : ℕ → (ℕ → ℕ) → (ℕ → ℕ → ℕ) → (ℕ → ℕ → ℕ → ℕ) → List ℕ
layout n counts numbers faces = contents_bytes n counts ++ pieces (bodies_bytes counts numbers faces) dimensions

pub length_faces : (face : ℕ → ℕ) (m : ℕ) → length (pieces (λ j. two (face j)) m) ≡ m * 2
length_faces face m = length_even (λ j. two (face j)) 2 m (λ j l. length_two (face j))

pub length_record_bytes : (p c : ℕ) (face : ℕ → ℕ) → length (record_bytes p c face) ≡ record_size p
length_record_bytes p c face =
    omega (arith, length-append (two c) (pieces (λ j. two (face j)) (used p)), length_two c, length_faces face (used p))

length_body_bytes : (p k : ℕ) (numbers : ℕ → ℕ) (faces : ℕ → ℕ → ℕ) → length (body_bytes p k numbers faces) ≡ k * record_size p
length_body_bytes p k numbers faces =
    length_even (λ i. record_bytes p (numbers i) (faces i)) (record_size p) k (λ i l. length_record_bytes p (numbers i) (faces i))

pub length_entry : (counts : ℕ → ℕ) (p : ℕ) → length (entry_bytes counts p) ≡ entry_size
length_entry counts p =
    omega (arith, length-append (two (counts p)) (four (body_start counts p)), length_two (counts p), length_four (body_start counts p))

pub length_entries : (counts : ℕ → ℕ) (p : ℕ) → length (pieces (entry_bytes counts) p) ≡ p * entry_size
length_entries counts p = length_even (entry_bytes counts) entry_size p (λ q l. length_entry counts q)

pub length_contents_bytes : (n : ℕ) (counts : ℕ → ℕ) → length (contents_bytes n counts) ≡ contents_size
length_contents_bytes n counts =
    omega (arith, length-append (two n) (pieces (entry_bytes counts) dimensions), length_two n, length_entries counts dimensions)

module _ (n : ℕ) (counts : ℕ → ℕ) (numbers : ℕ → ℕ → ℕ) (faces : ℕ → ℕ → ℕ → ℕ) where
  abbrev bodies : ℕ → List ℕ
  bodies = bodies_bytes counts numbers faces

  -- where body p starts
  pub body_place : (p : ℕ) → contents_size + length (pieces bodies p) ≡ body_start counts p
  unfolding body_start
  body_place p =
      ap (λ m. contents_size + m)
      (length_pieces bodies p ∙ total_cong (λ q. length (bodies q)) (λ q. counts q * record_size q) p (λ q l. length_body_bytes q (counts q) (numbers q) (faces q)))

  pub length_layout : length (layout n counts numbers faces) ≡ body_start counts dimensions
  length_layout =
      length-append (contents_bytes n counts) (pieces bodies dimensions)
      ∙ ap (λ m. m + length (pieces bodies dimensions)) (length_contents_bytes n counts)
      ∙ body_place dimensions

  -- each part of a file stands at its place
  pub record Laid (f : List ℕ) : Type 0 where
    pub size : length f ≡ body_start counts dimensions
    pub start : Stands f 0 (two n)
    pub count : (p : ℕ) → p < dimensions → Stands f (count_place p) (two (counts p))
    pub offset : (p : ℕ) → p < dimensions → Stands f (offset_place p) (four (body_start counts p))
    pub number : (p i : ℕ) → p < dimensions → i < counts p → Stands f (body_start counts p + i * record_size p) (two (numbers p i))
    pub face_word : (p i j : ℕ) → p < dimensions → i < counts p → j < used p → Stands f (body_start counts p + i * record_size p + face_place j) (two (faces p i j))

-- equal parts make equal files
pub body_start_cong : (counts counts' : ℕ → ℕ) (p : ℕ) → ((q : ℕ) → q < p → counts q ≡ counts' q) → body_start counts p ≡ body_start counts' p
unfolding body_start
body_start_cong counts counts' p h =
    ap (λ m. contents_size + m)
    (total_cong (λ q. counts q * record_size q) (λ q. counts' q * record_size q) p (λ q l. ap (λ k. k * record_size q) (h q l)))

body_bytes_cong : (p k k' : ℕ) (numbers numbers' : ℕ → ℕ) (faces faces' : ℕ → ℕ → ℕ) → k ≡ k' → ((i : ℕ) → i < k' → numbers i ≡ numbers' i) → ((i j : ℕ) → i < k' → j < used p → faces i j ≡ faces' i j) → body_bytes p k numbers faces ≡ body_bytes p k' numbers' faces'
body_bytes_cong p k k' numbers numbers' faces faces' e same same_face =
    ap (λ m. body_bytes p m numbers faces) e
    ∙ pieces_cong (λ i. record_bytes p (numbers i) (faces i)) (λ i. record_bytes p (numbers' i) (faces' i)) k'
    (λ i l. ap₂ ◌++◌ (ap two (same i l)) (pieces_cong (λ j. two (faces i j)) (λ j. two (faces' i j)) (used p) (λ j m. ap two (same_face i j l m))))

contents_bytes_cong : (n n' : ℕ) (counts counts' : ℕ → ℕ) → n ≡ n' → ((p : ℕ) → p < dimensions → counts p ≡ counts' p) → contents_bytes n counts ≡ contents_bytes n' counts'
contents_bytes_cong n n' counts counts' e same =
    ap₂ ◌++◌ (ap two e)
    (pieces_cong (entry_bytes counts) (entry_bytes counts') dimensions
    (λ p h. ap₂ ◌++◌ (ap two (same p h)) (ap four (body_start_cong counts counts' p (λ q l. same q (omega arith))))))

pub layout_cong : (n n' : ℕ) (counts counts' : ℕ → ℕ) (numbers numbers' : ℕ → ℕ → ℕ) (faces faces' : ℕ → ℕ → ℕ → ℕ) → n ≡ n' → ((p : ℕ) → p < dimensions → counts p ≡ counts' p) → ((p i : ℕ) → p < dimensions → i < counts' p → numbers p i ≡ numbers' p i) → ((p i j : ℕ) → p < dimensions → i < counts' p → j < used p → faces p i j ≡ faces' p i j) → layout n counts numbers faces ≡ layout n' counts' numbers' faces'
layout_cong n n' counts counts' numbers numbers' faces faces' e same same_number same_face =
    ap₂ ◌++◌ (contents_bytes_cong n n' counts counts' e same)
    (pieces_cong (bodies_bytes counts numbers faces) (bodies_bytes counts' numbers' faces') dimensions
    (λ p h. body_bytes_cong p (counts p) (counts' p) (numbers p) (numbers' p) (faces p) (faces' p) (same p h) (λ i l. same_number p i h l) (λ i j l m. same_face p i j h l m)))

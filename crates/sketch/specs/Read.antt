-- What a file describes: the table, where its contents and its body numbers are in order. And what the reader answers and leaves.
-- A reader must believe these definitions; nothing here is proved.
use Rattle.std.specs.Prelude.{Bool, ◌&&◌, ◌||◌, not, List, [], ◌∷◌, ℕ, ◌+◌, ◌*◌, ◌-◌, length, replicate, eqb, ltb, leb}
use Rattle.counting.specs.Counting.{some_has, nth, pick, all}
use Rattle.table.specs.Kind.{free_mark, used, dimensions}
use Rattle.table.specs.Table.{cells_of, on_length}
use Rattle.table.specs.Records.{Record, table_of}
use Rattle.audit.specs.Audit.{on_validity}
use Rattle.calls.specs.Calls.{Ground, verdict, on_verdict}
use Rattle.calls.specs.Numbers.{number_of}
use Rattle.calls.specs.declared.Refusal.TheVariants.{BadContents, BadNumber}
use Rattle.calls.specs.Calls.{Verdict}
use Rattle.sketch.specs.Form.{two_at, four_at, contents_size, count_place, offset_place, record_size, face_place, body_start}

-- the number of cells and the count of p-cells that the contents name
abbrev pub size_in : List ℕ → ℕ
size_in f = two_at f 0

unfoldable pub count_in : List ℕ → ℕ → ℕ
count_in f p = two_at f (count_place p)

-- where record i of body p starts
unfoldable pub record_in : List ℕ → ℕ → ℕ → ℕ
record_in f p i = body_start (count_in f) p + i * record_size p

-- the number of the i-th cell of body p, and its face j
unfoldable pub number_in : List ℕ → ℕ → ℕ → ℕ
number_in f p i = two_at f (record_in f p i)

unfoldable pub face_in : List ℕ → ℕ → ℕ → ℕ → ℕ
face_in f p i j = two_at f (record_in f p i + face_place j)

-- at least the contents, N the table's, every offset where the body starts, and the file ends with the last body
unfoldable pub contents_fit : ℕ → List ℕ → Bool
contents_fit n f =
    leb contents_size (length f)
    && (eqb (size_in f) n
    && (all dimensions (λ p. eqb (four_at f (offset_place p)) (body_start (count_in f) p))
    && eqb (length f) (body_start (count_in f) dimensions)))

-- whether body p has the number c
unfoldable pub in_body : List ℕ → ℕ → ℕ → Bool
in_body f p c = some_has (λ i. eqb (number_in f p i) c) (count_in f p)

-- the i-th number of body p is below N, above the one before it, and in no lower body
unfoldable pub number_fits : ℕ → List ℕ → ℕ → ℕ → Bool
number_fits n f p i =
    ltb (number_in f p i) n
    && ((eqb i 0 || ltb (number_in f p (i - 1)) (number_in f p i)) && not (some_has (λ q. in_body f q (number_in f p i)) p))

unfoldable pub numbers_fit : ℕ → List ℕ → Bool
numbers_fit n f = all dimensions (λ p. all (count_in f p) (number_fits n f p))

-- the dimension of cell c: the body that has it, or the free mark
unfoldable pub dim_in : List ℕ → ℕ → ℕ
dim_in f c = pick (some_has (λ p. in_body f p c) dimensions) (nth (λ p. in_body f p c) dimensions 0) free_mark

-- where cell c stands in body p
unfoldable pub place_in : List ℕ → ℕ → ℕ → ℕ
place_in f p c = nth (λ i. eqb (number_in f p i) c) (count_in f p) 0

-- the record of cell c: its faces as they stand there, and the free mark in every word that it does not use
abbrev pub cell_in : List ℕ → ℕ → Record
cell_in f c =
    record {
      dim = dim_in f c;
      face = λ j. pick (ltb j (used (dim_in f c))) (face_in f (dim_in f c) (place_in f (dim_in f c) c) j) free_mark;
    }

-- the table of n cells that the file describes
unfoldable pub described : ℕ → List ℕ → List ℕ
described n f = table_of n (cell_in f)

abbrev pub read_grounds : List ℕ → List ℕ → List Ground
read_grounds t f =
    on_length t
    ∷ record { refusal = BadContents; applies = not (contents_fit (cells_of t) f) }
    ∷ record { refusal = BadNumber; applies = not (numbers_fit (cells_of t) f) }
    ∷ on_validity (described (cells_of t) f)
    ∷ []

unfoldable pub read_verdict : List ℕ → List ℕ → Verdict
read_verdict t f = verdict (read_grounds t f)

-- refused with 1, the table stays; refused with anything else, every word is 65535
abbrev pub read_leaves : List ℕ → List ℕ → List ℕ
read_leaves t f =
    on_verdict (read_verdict t f) (described (cells_of t) f)
    (λ r. pick (eqb (number_of r) 1) t (replicate (length t) free_mark))

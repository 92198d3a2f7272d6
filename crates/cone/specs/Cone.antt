-- The cone over a closed set of marked cells: what the call answers and leaves. That this is the published rule, which names no
-- numbers but the lowest free ones, is stated and proved in `building`.
-- A reader must believe these definitions; nothing here is proved.
use Rattle.std.specs.Prelude.{Bool, ◌&&◌, not, List, [], ◌∷◌, ◌++◌, ℕ, suc, ◌+◌, ◌*◌, ◌-◌, length, eqb, ltb}
use Rattle.bitset.specs.Bits.{bits, words_for, member}
use Rattle.table.specs.Kind.{top, free_mark, used}
use Rattle.table.specs.Table.{cells_of, dim, face, live}
use Rattle.table.specs.Records.{Record, record_at, table_of}
use Rattle.audit.specs.Audit.{grounds_with}
use Rattle.calls.specs.Calls.{Ground, verdict, named, leaves}
use Rattle.calls.specs.declared.Refusal.TheVariants.{NotLive, NotClosed, TopMarked, NoRoom}
use Rattle.calls.specs.Calls.{Verdict}
use Rattle.calls.specs.Calls.{Named}
use Rattle.counting.specs.Counting.{how_many, nth, some_has, pick}

-- a number inside the table whose record is free
unfoldable pub free : List ℕ → ℕ → Bool
free t c = ltb c (cells_of t) && not (live t c)

-- the apex: the lowest free number
unfoldable pub apex_of : List ℕ → ℕ
apex_of t = nth (free t) (cells_of t) 0

-- the cone of the marked cell s: the free number that has below it the apex and the cones of the marked cells below s
unfoldable pub cone_of : List ℕ → List ℕ → ℕ → ℕ
cone_of t marks s = nth (free t) (cells_of t) (1 + how_many (member marks) s)

-- the marked cell whose cone has the free number c
unfoldable pub base_of : List ℕ → List ℕ → ℕ → ℕ
base_of t marks c = nth (member marks) (cells_of t) (how_many (free t) c - 1)

-- how many new cells there are: the apex and a cone for each mark
unfoldable pub new_cells : List ℕ → List ℕ → ℕ
new_cells t marks = 1 + how_many (member marks) (cells_of t)

-- face j of the cone over s
unfoldable pub cone_face : List ℕ → List ℕ → ℕ → ℕ → ℕ
cone_face t marks s j =
    pick (eqb j (suc (dim t s))) s
    (pick (ltb (suc (dim t s)) j) free_mark (pick (eqb (dim t s) 0) (apex_of t) (cone_of t marks (face t s j))))

-- whether the number c is free and given out
abbrev pub given : List ℕ → List ℕ → ℕ → Bool
given t marks c = free t c && ltb (how_many (free t) c) (new_cells t marks)

-- the record of the apex, a point, and that of the cone over s
abbrev pub point_record : Record
point_record = record { dim = 0; face = λ j. free_mark }

abbrev pub cone_record : List ℕ → List ℕ → ℕ → Record
cone_record t marks s = record { dim = suc (dim t s); face = cone_face t marks s }

unfoldable pub coned : List ℕ → List ℕ → List ℕ
coned t marks =
    table_of (cells_of t)
    (λ c. pick (given t marks c) (pick (eqb c (apex_of t)) point_record (cone_record t marks (base_of t marks c))) (record_at t c))

-- a marked number that is no live cell; numbers from N on are none
unfoldable pub marked_not_live : List ℕ → List ℕ → Bool
marked_not_live t marks = some_has (λ c. member marks c && not (live t c)) (bits * length marks)

-- a marked cell with a face that is not marked
unfoldable pub not_closed : List ℕ → List ℕ → Bool
not_closed t marks =
    some_has (λ c. member marks c && some_has (λ j. not (member marks (face t c j))) (used (dim t c))) (cells_of t)

unfoldable pub top_marked : List ℕ → List ℕ → Bool
top_marked t marks = some_has (λ c. member marks c && eqb (dim t c) top) (cells_of t)

unfoldable pub no_room : List ℕ → List ℕ → Bool
no_room t marks = ltb (how_many (free t) (cells_of t)) (new_cells t marks)

-- the marks have the length for the table
abbrev pub marks_fit : List ℕ → List ℕ → Bool
marks_fit t marks = eqb (length marks) (words_for (cells_of t))

-- the grounds that only the marks give, in their order, and then the room
abbrev pub mark_grounds : List ℕ → List ℕ → List Ground
mark_grounds t marks =
    record { refusal = NotLive; applies = marked_not_live t marks }
    ∷ record { refusal = NotClosed; applies = not_closed t marks }
    ∷ record { refusal = TopMarked; applies = top_marked t marks }
    ∷ []

abbrev pub cone_grounds : List ℕ → List ℕ → List Ground
cone_grounds t marks =
    grounds_with t (marks_fit t marks) (mark_grounds t marks ++ (record { refusal = NoRoom; applies = no_room t marks } ∷ []))

unfoldable pub cone_verdict : List ℕ → List ℕ → Verdict
cone_verdict t marks = verdict (cone_grounds t marks)

abbrev pub cone_answer : List ℕ → List ℕ → Named
cone_answer t marks = named (cone_verdict t marks) (apex_of t)

abbrev pub cone_leaves : List ℕ → List ℕ → List ℕ
cone_leaves t marks = leaves (cone_verdict t marks) (coned t marks) t

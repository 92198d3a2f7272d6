-- The measured pieces, cases 1 to 12 of the published list, as entries of one table: words before, a request, what it answers, the
-- words after, and the numbers of the table after. What an entry claims is in Claims.antt.
-- A reader must believe these definitions; nothing here is proved.
use Rattle.std.specs.Prelude.{List, [], ◌∷◌, ◌++◌, ℕ, zero, suc, ◌+◌, ◌^◌, ℤ, pos, negsuc}
use Rattle.table.specs.Kind.{width, free_mark}
use Rattle.building.specs.Runs.{Request}
use Rattle.building.specs.Runs.Request.{cone_over, merge_of}

-- ---- how a table is written down

-- n words: those given, then free marks
abbrev pub filled : ℕ → List ℕ → List ℕ
filled zero ws = []
filled (suc n) [] = free_mark ∷ filled n []
filled (suc n) (w ∷ ws) = w ∷ filled n ws

-- the records of single cells, faces in order
abbrev pub free : List ℕ
free = filled width []

abbrev pub point : List ℕ
point = filled width (0 ∷ [])

abbrev pub edge : ℕ → ℕ → List ℕ
edge a b = filled width (1 ∷ a ∷ b ∷ [])

abbrev pub triangle : ℕ → ℕ → ℕ → List ℕ
triangle a b c = filled width (2 ∷ a ∷ b ∷ c ∷ [])

-- a table with room for n cells: the records given, from number 0 on, then free ones
abbrev pub room : ℕ → List (List ℕ) → List ℕ
room zero rs = []
room (suc n) [] = free ++ room n []
room (suc n) (r ∷ rs) = r ++ room n rs

-- one word of marks, for a table of at most 64 cells: the numbers given, each once
abbrev pub bits_of : List ℕ → ℕ
bits_of [] = 0
bits_of (c ∷ cs) = 2 ^ c + bits_of cs

abbrev pub marking : List ℕ → List ℕ
marking cs = bits_of cs ∷ []

-- ---- what an entry says

-- what a call answers: it names a cell, it is done and has no cell to name, or it is refused with a number of the published list
pub data Answer : Type 0 where
  names : ℕ → Answer
  done : Answer
  refused : ℕ → Answer

pub data Asked : Type 0 where
  nothing : Asked
  call : Request → Answer → Asked

-- the signed incidence of a cell and a face
pub record Incidence : Type 0 where
  pub cell : ℕ
  pub face : ℕ
  pub value : ℤ

abbrev pub incidence : ℕ → ℕ → ℤ → Incidence
incidence s u z = record { cell = s; face = u; value = z }

-- the reducer's additions in the seven dimensions, where the published list names them
pub data Counts : Type 0 where
  unnamed : Counts
  seven : List ℕ → Counts

pub record Case : Type 0 where
  pub before : List ℕ
  pub asked : Asked
  pub after : List ℕ
  -- hole numbers of the table after, from dimension 0 on; in every dimension past the list's end it is 0
  pub holes : List ℕ
  -- incidences of the table after, where the published list names some
  pub incidences : List Incidence
  -- the additions that the reducer makes for the table after
  pub additions : Counts

-- ---- the pieces

abbrev pub loop : ℕ → List ℕ
loop n = room n (point ∷ edge 0 0 ∷ [])

abbrev pub segment : List ℕ
segment = room 8 (point ∷ point ∷ edge 1 0 ∷ [])

-- the segment after its ends were merged
abbrev pub closed_segment : List ℕ
closed_segment = room 8 (point ∷ free ∷ edge 0 0 ∷ [])

-- two edges between two points, in one direction and in both
abbrev pub parallel : List ℕ
parallel = room 8 (point ∷ point ∷ edge 1 0 ∷ edge 1 0 ∷ [])

abbrev pub opposite : List ℕ
opposite = room 8 (point ∷ point ∷ edge 1 0 ∷ edge 0 1 ∷ [])

abbrev pub torus : List ℕ
torus = room 8 (point ∷ edge 0 0 ∷ edge 0 0 ∷ edge 0 0 ∷ triangle 2 3 1 ∷ triangle 1 3 2 ∷ [])

abbrev pub projective_plane : List ℕ
projective_plane = room 8 (point ∷ point ∷ edge 1 0 ∷ edge 1 0 ∷ edge 0 0 ∷ triangle 3 2 4 ∷ triangle 2 3 4 ∷ [])

abbrev pub dunce_hat : List ℕ
dunce_hat = room 8 (point ∷ edge 0 0 ∷ triangle 1 1 1 ∷ [])

abbrev pub loop_cone : List ℕ
loop_cone = room 5 (point ∷ edge 0 0 ∷ point ∷ edge 2 0 ∷ triangle 3 3 1 ∷ [])

-- ---- the table

unfoldable pub cases : List Case
cases =
    -- 1: the empty table
    record { before = room 1 []; asked = nothing; after = room 1 []; holes = []; incidences = []; additions = unnamed }
    -- 2: the loop
    ∷ record { before = loop 8; asked = nothing; after = loop 8; holes = 1 ∷ 1 ∷ []; incidences = incidence 1 0 (pos 0) ∷ []; additions = unnamed }
    -- 3: the segment
    ∷ record { before = segment; asked = nothing; after = segment; holes = 1 ∷ 0 ∷ []; incidences = incidence 2 1 (pos 1) ∷ incidence 2 0 (negsuc 0) ∷ []; additions = unnamed }
    -- 4: its ends merged; then the next apex, over no marks
    ∷ record { before = segment; asked = call (merge_of 1 0) (names 0); after = closed_segment; holes = 1 ∷ 1 ∷ []; incidences = []; additions = unnamed }
    ∷ record { before = closed_segment; asked = call (cone_over (marking [])) (names 1); after = room 8 (point ∷ point ∷ edge 0 0 ∷ []); holes = 2 ∷ 1 ∷ []; incidences = []; additions = unnamed }
    -- 5: two edges with the same faces; then these merged
    ∷ record { before = parallel; asked = nothing; after = parallel; holes = 1 ∷ 1 ∷ []; incidences = []; additions = unnamed }
    ∷ record { before = parallel; asked = call (merge_of 2 3) (names 2); after = segment; holes = 1 ∷ 0 ∷ []; incidences = []; additions = unnamed }
    -- 6: two edges with the same faces in another order
    ∷ record { before = opposite; asked = call (merge_of 2 3) (refused 6); after = opposite; holes = 1 ∷ 1 ∷ []; incidences = []; additions = unnamed }
    -- 7: the torus, with one addition in dimension 2; its triangles have the same set of faces, in another order
    ∷ record { before = torus; asked = nothing; after = torus; holes = 1 ∷ 2 ∷ 1 ∷ []; incidences = []; additions = seven (0 ∷ 0 ∷ 1 ∷ 0 ∷ 0 ∷ 0 ∷ 0 ∷ []) }
    ∷ record { before = torus; asked = call (merge_of 4 5) (refused 6); after = torus; holes = 1 ∷ 2 ∷ 1 ∷ []; incidences = []; additions = unnamed }
    -- 8: the projective plane
    ∷ record { before = projective_plane; asked = nothing; after = projective_plane; holes = 1 ∷ 1 ∷ 1 ∷ []; incidences = []; additions = unnamed }
    -- 9: one edge, three times a face of one triangle
    ∷ record { before = dunce_hat; asked = nothing; after = dunce_hat; holes = 1 ∷ 0 ∷ 0 ∷ []; incidences = incidence 2 1 (pos 1) ∷ []; additions = unnamed }
    -- 10: the cone over the loop
    ∷ record { before = loop 5; asked = call (cone_over (marking (0 ∷ 1 ∷ []))) (names 2); after = loop_cone; holes = 1 ∷ 0 ∷ 0 ∷ []; incidences = []; additions = unnamed }
    -- 11: the same without room
    ∷ record { before = loop 4; asked = call (cone_over (marking (0 ∷ 1 ∷ []))) (refused 9); after = loop 4; holes = 1 ∷ 1 ∷ []; incidences = []; additions = unnamed }
    -- 12: marks that are not closed
    ∷ record { before = loop 8; asked = call (cone_over (marking (1 ∷ []))) (refused 7); after = loop 8; holes = 1 ∷ 1 ∷ []; incidences = []; additions = unnamed }
    ∷ []

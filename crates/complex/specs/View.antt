-- A table as evidence sees it: how many numbers it has, which are live, their dimensions, and the word at each face place. Rows,
-- reducer and checker read a table through this view, and of its validity use no more than `Frame`, which inner functions alone ask.
-- A reader must believe these definitions, but for `Frame`, which every valid table is proved to have; nothing here is proved.
use Rattle.std.specs.Prelude.{◌≡◌, Bool, true, ◌&&◌, List, ℕ, ◌≤◌, ◌<◌, eqb}
use Rattle.homology.specs.Cells.{Cells, Lawful, odd}
use Rattle.table.specs.Kind.{capacity, top, faces, used}
use Rattle.table.specs.Table.{cells_of, dim, face, live}

pub record View : Type 0 where
  -- the numbers are those below size
  pub size : ℕ
  pub live : ℕ → Bool
  pub dim : ℕ → ℕ
  -- how many face places a number has, and the word at each
  pub places : ℕ → ℕ
  pub face : ℕ → ℕ → ℕ

abbrev pub view_of : List ℕ → View
view_of t = record {
  size = cells_of t;
  live = live t;
  dim = dim t;
  places = λ c. used (dim t c);
  face = face t;
}

-- whether an odd number of c's face places name u
unfoldable pub odd_face : View → ℕ → ℕ → Bool
odd_face v c u = v.live c && odd (v.places c) (λ j. eqb (v.face c j) u)

-- the cells with their mod 2 faces
abbrev pub viewed : View → Cells
viewed v = record { size = v.size; live = v.live; dim = v.dim; inc = odd_face v }

-- What evidence asks of a table:
pub record Frame (v : View) : Type 0 where
  -- it is no larger than the largest,
  pub room : v.size ≤ capacity
  -- a live number lies inside,
  pub below : (c : ℕ) → v.live c ≡ true → c < v.size
  -- and is known by its dimension, one up to the largest;
  pub low : (c : ℕ) → v.live c ≡ true → v.dim c ≤ top
  pub living : (c : ℕ) → c < v.size → v.dim c ≤ top → v.live c ≡ true
  -- it has no more places than a record has face words,
  pub few : (c : ℕ) → v.live c ≡ true → v.places c ≤ faces
  -- each of which names a number inside,
  pub inside : (c j : ℕ) → v.live c ≡ true → j < v.places c → v.face c j < v.size
  -- and the boundary applied twice gives nothing.
  pub lawful : Lawful (viewed v)

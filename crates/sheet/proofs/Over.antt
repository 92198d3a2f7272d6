-- What it says that a cell has a face, and that a cell is covered: there is a live cell over it, and a place at which that one names it.
-- What carries it: the search over places and over cells, read as what it finds. Assumes nothing.
use mathlib.Core.Path.{◌≡◌, ap, ◌∙◌}
use mathlib.Core.Bool.{true, ◌&&◌}
use mathlib.Core.List.{List}
use Prim.Native.Nat.{ℕ, suc, ◌<◌}
use borrow.Author.Tests.{eq-eqb, eqb-true}
use lib.Dec.{eqb}
use Rattle.counting.proofs.Cases.{and_both, and_right}
use Rattle.counting.proofs.Counting.{some_has_at, some_has_one}
use Rattle.table.specs.Kind.{used}
use Rattle.table.specs.Table.{cells_of, dim, face, Live, live, Valid}
use Rattle.table.proofs.Records.{live_says}
use Rattle.table.proofs.Places.{used_says}
use Rattle.sheet.specs.Sheet.{has_face, covered}

module _ (t : List ℕ) where
  -- a live cell over u
  pub record Over (u : ℕ) : Type 0 where
    pub cell : ℕ
    pub place : ℕ
    pub living : Live t cell
    pub used_place : place < used (dim t cell)
    pub names : face t cell place ≡ u

  has_face_lem : (c j u : ℕ) → j < used (dim t c) → face t c j ≡ u → has_face t c u ≡ true
  unfolding has_face
  has_face_lem c j u h e =
      some_has_at (λ l. eqb (face t c l) u) (used (dim t c)) j h (eq-eqb (face t c j) u e)

  place_of : (c u : ℕ) → has_face t c u ≡ true → (j : ℕ) × (j < used (dim t c)) × (face t c j ≡ u)
  unfolding has_face
  place_of c u e =
      let w = some_has_one (λ l. eqb (face t c l) u) (used (dim t c)) e in
      (w.0, w.1, eqb-true (face t c w.0) u w.2)

  -- a cell that has a face is live: no other record uses a place
  pub side_live : (c u : ℕ) → c < cells_of t → has_face t c u ≡ true → Live t c
  side_live c u h e =
      let w = place_of c u e in
      record { inside = h; low = (used_says (dim t c) w.0 w.1).1 }

  -- and lies one dimension up
  pub side_dim : Valid t → (c u : ℕ) → c < cells_of t → has_face t c u ≡ true → dim t c ≡ suc (dim t u)
  side_dim v c u h e =
      let w = place_of c u e in
      v.face_dim c w.0 (side_live c u h e) w.1 ∙ ap (λ s. suc (dim t s)) w.2

  pub over_by : (c u : ℕ) → c < cells_of t → has_face t c u ≡ true → Over u
  over_by c u h e =
      let w = place_of c u e in
      record { cell = c; place = w.0; living = side_live c u h e; used_place = w.1; names = w.2 }

  pub covered_over : (u : ℕ) → covered t u ≡ true → Over u
  unfolding covered
  covered_over u e =
      let w = some_has_one (λ c. live t c && has_face t c u) (cells_of t) e in
      over_by w.0 u w.1 (and_right (live t w.0) (has_face t w.0 u) w.2)

  pub over_has : (u : ℕ) (o : Over u) → has_face t o.cell u ≡ true
  over_has u o = has_face_lem o.cell o.place u o.used_place o.names

  pub over_covered : (u : ℕ) → Over u → covered t u ≡ true
  unfolding covered
  over_covered u o =
      some_has_at (λ c. live t c && has_face t c u) (cells_of t) o.cell o.living.inside
      (and_both (live t o.cell) (has_face t o.cell u) (live_says t o.cell o.living) (over_has u o))

  pub over_dim : Valid t → (u : ℕ) (o : Over u) → dim t o.cell ≡ suc (dim t u)
  over_dim v u o =
      v.face_dim o.cell o.place o.living o.used_place ∙ ap (λ c. suc (dim t c)) o.names

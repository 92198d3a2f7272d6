-- The counters of the sides, place by place: what one turn of the count leaves in them.
-- What carries it: within cell c the places passed so far that name a cell are added to those of the cells before. Assumes nothing.
use mathlib.Core.Path.{◌≡◌, refl, sym, ap, subst, ◌∙◌}
use mathlib.Core.Bool.{Bool}
use mathlib.Core.List.{List}
use Prim.Native.Nat.{ℕ, ◌+◌, ◌≤◌, ◌<◌}
use native.Mathlib.Omega.{arith}
use borrow.Author.Tests.{eq-eqb, ne_eqb}
use lib.ListN.{length, get_or, set, take, replicate, length-set, length-replicate, get_or-replicate}
use lib.Seq.{get_or-set_same, get_or-set_other}
use lib.Dec.{eqb}
use Rattle.counting.specs.Counting.{how_many}
use Rattle.counting.proofs.Cases.{same_or_other}
use Rattle.counting.proofs.Counting.{how_many_zero, how_many_yes_more, how_many_no_more, how_many_mono}
use Rattle.table.proofs.Slices.{taken, face_taken}
use Rattle.table.specs.Kind.{capacity, faces, used}
use Rattle.table.specs.Table.{cells_of, dim, face, faces_of, Live}
use Rattle.table.proofs.Places.{used_says}
use Rattle.sheet.specs.Sheet.{places}
use Rattle.sheet.specs.Sides.{levels_of, sides_below, Told, Counted, IsNext, Crowded}
use Rattle.counting.proofs.Totals.{total_zero, total_more, total_grows}

-- whether place l of c names u
abbrev names : List ℕ → ℕ → ℕ → ℕ → Bool
names t c u l = eqb (face t c l) u

module _ (t : List ℕ) where
  places_all : (c u : ℕ) → how_many (names t c u) (used (dim t c)) ≡ places t c u
  unfolding places
  places_all c u = refl

  -- cells: none at the start, one more, and never fewer later
  sides_none : (u : ℕ) → sides_below t u 0 ≡ 0
  unfolding sides_below
  sides_none u = total_zero (λ c. places t c u)

  sides_more : (u c : ℕ) → sides_below t u (c + 1) ≡ sides_below t u c + places t c u
  unfolding sides_below
  sides_more u c = total_more (λ s. places t s u) c

  sides_grow : (u c : ℕ) → c < cells_of t → sides_below t u (c + 1) ≤ sides_below t u (cells_of t)
  unfolding sides_below
  sides_grow u c h = total_grows (λ s. places t s u) (c + 1) (cells_of t) (omega arith)

-- A counter after one more place that names its cell: counted, or marked where it isn't counted; and one that stays.
module _ (l p k s s' : ℕ) (h : Told l p k s) where
  told_counted : s' ≡ s + 1 → k < 2 → Told l p (k + 1) s'
  told_counted e i =
      record { most = omega (arith, h.most); some = λ _. omega arith; wings = λ q. omega (arith, h.wings q); few = omega arith }

  told_marked : s' ≡ s + 1 → (p + 2 ≡ l → ⊥) → Told l p 1 s'
  told_marked e i =
      record { most = omega arith; some = λ _. omega arith; wings = λ q. absurd (i q); few = omega arith }

-- the counters k within cell c, after its places below j
pub record Counting (t k : List ℕ) (c j : ℕ) : Type 0 where
  pub room : cells_of t ≤ length k
  pub each : (u : ℕ) → u < cells_of t → Told (levels_of t) (dim t u) (get_or k u 0) (sides_below t u c + how_many (names t c u) j)

-- f is the cell that c names at place j: it lives, one dimension down
pub record FaceAt (t : List ℕ) (c j f : ℕ) : Type 0 where
  pub named : f ≡ face t c j
  pub living : Live t f
  pub below : dim t f + 1 ≡ dim t c

module _ (t k : List ℕ) (c : ℕ) where
  abbrev l : ℕ
  l = levels_of t

  abbrev passed : ℕ → ℕ → ℕ
  passed u j = sides_below t u c + how_many (names t c u) j

  pub counting_starts : Counted t k c → Counting t k c 0
  counting_starts h =
      record {
        room = h.room;
        each = λ u i. let e : sides_below t u c ≡ passed u 0 = omega (arith, how_many_zero (names t c u)) in subst (Told l (dim t u) (get_or k u 0)) e (h.each u i);
      }

  -- A turn of the count over the places keeps its invariant: the counter of the cell f that place j names is written anew.
  module _ (j f : ℕ) (h : Counting t k c j) (a : FaceAt t c j f) where
    told : Told l (dim t f) (get_or k f 0) (passed f j)
    told = h.each f a.living.inside

    one_more : passed f (j + 1) ≡ passed f j + 1
    one_more = omega (arith, how_many_yes_more (names t c f) j (eq-eqb (face t c j) f (sym a.named)))

    module _ (v : ℕ) (now-told : Told l (dim t f) v (passed f (j + 1))) where
      abbrev k' : List ℕ
      k' = set k f v

      counter_more : (u : ℕ) → u < cells_of t → Told l (dim t u) (get_or k' u 0) (passed u (j + 1))
      counter_more u b =
          same_or_other (λ s. Told l (dim t s) (get_or k' s 0) (passed s (j + 1))) u f
          (subst (λ x. Told l (dim t f) x (passed f (j + 1))) (sym (get_or-set_same k f v 0 (omega arith))) now-told)
          (λ ne.
          let same : passed u j ≡ passed u (j + 1) = omega (arith, how_many_no_more (names t c u) j (ne_eqb (face t c j) u (λ q. ne (sym q ∙ sym a.named)))) in
          subst (λ x. Told l (dim t u) x (passed u (j + 1))) (sym (get_or-set_other k f u v 0 ne))
          (subst (Told l (dim t u) (get_or k u 0)) same (h.each u b)))

      turn : Counting t k' c (j + 1)
      turn = record { room = omega (arith, h.room, length-set k f v); each = counter_more }

    -- counted, where the counter was below 2,
    pub count_turn : get_or k f 0 < 2 → Counting t (set k f (get_or k f 0 + 1)) c (j + 1)
    count_turn few = turn (get_or k f 0 + 1) (told_counted l (dim t f) (get_or k f 0) (passed f j) (passed f (j + 1)) told one_more few)

    -- or marked, where c is not of the largest dimension;
    pub mark_turn : (dim t c + 1 ≡ l → ⊥) → Counting t (set k f 1) c (j + 1)
    mark_turn off =
        turn 1 (told_marked l (dim t f) (get_or k f 0) (passed f j) (passed f (j + 1)) told one_more (λ e. off (omega arith)))

    -- and where it was 2 already, this is a third place.
    pub third_place : c < cells_of t → dim t c + 1 ≡ l → j < used (dim t c) → 2 ≤ get_or k f 0 → Crowded t
    third_place b e i two =
        record {
          cell = f;
          living = a.living;
          level = omega arith;
          three = omega (arith, told.most, one_more, how_many_mono (names t c f) (j + 1) (used (dim t c)) (omega arith), places_all t c f, sides_more t f c, sides_grow t f c b);
        }

  -- After all places the cell is counted.
  pub counting_ends : (j : ℕ) → Counting t k c j → j ≡ used (dim t c) → Counted t k (c + 1)
  counting_ends j h e =
      record {
        room = h.room;
        each = λ u b.
            let s : passed u j ≡ sides_below t u (c + 1) = omega (arith, ap (how_many (names t c u)) e, places_all t c u, sides_more t u c) in
            subst (Told l (dim t u) (get_or k u 0)) s (h.each u b);
      }

-- a counter that is 0, of a cell that is not named
told_none : (l p k s : ℕ) → k ≡ 0 → s ≡ 0 → Told l p k s
told_none l p k s e i =
    record { most = omega arith; some = λ h. absurd (omega arith); wings = λ q. omega arith; few = omega arith }

-- counters that are all 0 have counted no cell
pub counted_none : (t : List ℕ) → cells_of t ≤ capacity → Counted t (replicate capacity 0) 0
counted_none t h =
    record {
      room = rw (length-replicate {A = ℕ} capacity 0) h;
      each = λ u b. told_none (levels_of t) (dim t u) (get_or (replicate capacity 0) u 0) (sides_below t u 0) (get_or-replicate {A = ℕ} capacity u 0 0 (omega arith)) (sides_none t u);
    }

-- The faces of the cell that is next, read where its record uses them.
module _ {t k : List ℕ} {c : ℕ} (next : IsNext t c k) {fs : List ℕ} (by_value : fs ≡ faces_of t c) {m : ℕ} (many : (m ≡ used (dim t c)) × (m ≤ faces)) where
  module _ {j : ℕ} (l : j < length (take m fs)) where
    inside : j < m
    inside = omega (arith, l, taken t c by_value many.1)

    within : j < used (dim t c)
    within = omega (arith, inside, many.0)

    is_face : get_or (take m fs) j 0 ≡ face t c j
    is_face = face_taken t c by_value many.1 inside

    pub face_named : FaceAt t c j (get_or (take m fs) j 0)
    face_named =
        let living : Live t c = record { inside = next.inside; low = (used_says (dim t c) j within).1 } in
        record {
          named = is_face;
          living = rw is_face (next.valid.face_live c j living within);
          below = rw is_face (omega (arith, next.valid.face_dim c j living within));
        }

-- What the acceptance of a cone says of the table and the marks, and that it is accepted exactly there.
-- What carries it: each ground is a search, and a search that finds none speaks of every number. Assumes nothing.
use mathlib.Core.Path.{◌≡◌, refl, ap}
use mathlib.Core.Bool.{Bool, true, false, ◌&&◌, not, false≢true}
use mathlib.Core.List.{List}
use mathlib.Core.Logic.{⊎_elim}
use Prim.{tt}
use Prim.Native.Nat.{ℕ, ◌-◌, ◌*◌, ◌≤◌, ◌<◌}
use native.Mathlib.Omega.{arith}
use borrow.Author.Tests.{eq-eqb, ne_eqb, eqb-true, eqb-false, ltb-false, le-ltb, not-false}
use lib.ListN.{length}
use lib.Dec.{eqb}
use Rattle.bitset.specs.Bits.{bits, words_for, mark, member}
use Rattle.bitset.proofs.Marks.{mark_past}
use Rattle.table.specs.Kind.{top, used}
use Rattle.table.specs.Table.{cells_of, dim, face, Live, live, Valid, sized}
use Rattle.audit.specs.Audit.{sound}
use Rattle.std.specs.declared.result.Result.TheVariants.{Ok}
use Prim.{tt}
use Rattle.table.proofs.Records.{live_says, live_true}
use Rattle.audit.proofs.Valid.{sound_is_valid, valid_is_sound, valid_is_sized}
use Rattle.counting.specs.Counting.{how_many, some_has}
use Rattle.cone.specs.Cone.{free, new_cells, marked_not_live, not_closed, top_marked, no_room, cone_grounds, cone_verdict}
use Rattle.counting.proofs.Cases.{below_or_not, and_both, and_left, and_right}
use Rattle.counting.proofs.Counting.{some_has_each, some_has_none}
use Rattle.cone.specs.Parts.{MarkedBelow}
use Rattle.calls.proofs.Grounds.{accepted_none_applies, none_applies_accepted}

-- The table is valid, the marks have its length, every marked number is a live cell, every face of a marked cell is marked, no
-- marked cell has the top dimension, and there are free numbers for the apex and the cones.
pub record Accepts (t marks : List ℕ) : Type 0 where
  pub valid : Valid t
  pub words : length marks ≡ words_for (cells_of t)
  pub marked_live : (c : ℕ) → member marks c ≡ true → Live t c
  pub closed : (c j : ℕ) → member marks c ≡ true → j < used (dim t c) → member marks (face t c j) ≡ true
  pub below_top : (c : ℕ) → member marks c ≡ true → dim t c < top
  pub room : new_cells t marks ≤ how_many (free t) (cells_of t)

-- nothing is marked from e on, and e lies in the table or just after it: a pass over the marked cells can stop there
pub record MarksEnd (t marks : List ℕ) (e : ℕ) : Type 0 where
  pub inside : e ≤ cells_of t
  pub none : (s : ℕ) → e ≤ s → member marks s ≡ false

-- the last mark is on a live cell, so the marks end in the table
pub ends_inside : (t marks : List ℕ) (e : ℕ) → ((c : ℕ) → member marks c ≡ true → Live t c) → MarkedBelow marks e → MarksEnd t marks e
ends_inside t marks e live b =
    record {
      inside = ⊎_elim (λ l. omega (arith, (live (e - 1) (b.last l)).inside)) (λ l. omega arith) (below_or_not 0 e);
      none = b.none;
    }

-- a test that holds of c, beside one that must not
both_fail : (a b : Bool) → (a && b) ≡ false → a ≡ true → b ≡ false
both_fail true b e h = e
both_fail false b e h = absurd (false≢true h)

never_both : (a b : Bool) → (a ≡ true → b ≡ false) → (a && b) ≡ false
never_both true b h = h refl
never_both false b h = refl

-- nothing is marked past the words
pub member_inside : (ws : List ℕ) (c : ℕ) → member ws c ≡ true → c < bits * length ws
unfolding member
member_inside ws c e =
    ⊎_elim
    (λ l. l)
    (λ l. absurd (omega (arith, mark_past ws c l, eqb-true (mark ws c) 1 e)))
    (below_or_not c (bits * length ws))

module _ (t marks : List ℕ) where
  pub live_marks : marked_not_live t marks ≡ false → (c : ℕ) → member marks c ≡ true → Live t c
  unfolding marked_not_live
  live_marks e c m =
      live_true t c
      (not-false (live t c)
      (both_fail (member marks c) (not (live t c))
      (some_has_each (λ i. member marks i && not (live t i)) (bits * length marks) e c (member_inside marks c m)) m))

  marks_live : ((c : ℕ) → member marks c ≡ true → Live t c) → marked_not_live t marks ≡ false
  unfolding marked_not_live
  marks_live h =
      some_has_none (λ i. member marks i && not (live t i)) (bits * length marks)
      (λ c l. never_both (member marks c) (not (live t c)) (λ m. ap not (live_says t c (h c m))))

  abbrev leaks_at : ℕ → ℕ → Bool
  leaks_at c j = not (member marks (face t c j))

  abbrev leaks : ℕ → Bool
  leaks c = member marks c && some_has (leaks_at c) (used (dim t c))

  closed_marks : not_closed t marks ≡ false → (c j : ℕ) → c < cells_of t → member marks c ≡ true → j < used (dim t c) → member marks (face t c j) ≡ true
  unfolding not_closed
  closed_marks e c j l m h =
      not-false (member marks (face t c j))
      (some_has_each (leaks_at c) (used (dim t c))
      (both_fail (member marks c) (some_has (leaks_at c) (used (dim t c))) (some_has_each leaks (cells_of t) e c l) m) j h)

  marks_closed : ((c j : ℕ) → member marks c ≡ true → j < used (dim t c) → member marks (face t c j) ≡ true) → not_closed t marks ≡ false
  unfolding not_closed
  marks_closed h =
      some_has_none leaks (cells_of t)
      (λ c l.
      never_both (member marks c) (some_has (leaks_at c) (used (dim t c)))
      (λ m. some_has_none (leaks_at c) (used (dim t c)) (λ j k. ap not (h c j m k))))

  low_marks : top_marked t marks ≡ false → (c : ℕ) → Live t c → member marks c ≡ true → dim t c < top
  unfolding top_marked
  low_marks e c v m =
      let z : (dim t c ≡ top → ⊥) = eqb-false (dim t c) top (both_fail (member marks c) (eqb (dim t c) top) (some_has_each (λ i. member marks i && eqb (dim t i) top) (cells_of t) e c v.inside) m) in
      omega (arith, v.low)

  marks_low : ((c : ℕ) → member marks c ≡ true → dim t c < top) → top_marked t marks ≡ false
  unfolding top_marked
  marks_low h =
      some_has_none (λ i. member marks i && eqb (dim t i) top) (cells_of t)
      (λ c l. never_both (member marks c) (eqb (dim t c) top) (λ m. ne_eqb (dim t c) top (λ i. omega (arith, h c m))))

  room_left : no_room t marks ≡ false → new_cells t marks ≤ how_many (free t) (cells_of t)
  unfolding no_room
  room_left e = ltb-false (how_many (free t) (cells_of t)) (new_cells t marks) e

  left_room : new_cells t marks ≤ how_many (free t) (cells_of t) → no_room t marks ≡ false
  unfolding no_room
  left_room h = le-ltb (how_many (free t) (cells_of t)) (new_cells t marks) h

  pub cone_accepted : cone_verdict t marks ≡ Ok tt → Accepts t marks
  unfolding cone_verdict
  cone_accepted e =
      let k = accepted_none_applies (cone_grounds t marks) e in
      let lengths = not-false (sized t && eqb (length marks) (words_for (cells_of t))) k.0 in
      let z = and_left (sized t) (eqb (length marks) (words_for (cells_of t))) lengths in
      let w = and_right (sized t) (eqb (length marks) (words_for (cells_of t))) lengths in
      let alive : ((c : ℕ) → member marks c ≡ true → Live t c) = live_marks k.1.1.0 in
      record {
        valid = sound_is_valid t z (not-false (sound t) k.1.0);
        words = eqb-true (length marks) (words_for (cells_of t)) w;
        marked_live = alive;
        closed = λ c j m h. closed_marks k.1.1.1.0 c j (alive c m).inside m h;
        below_top = λ c m. low_marks k.1.1.1.1.0 c (alive c m) m;
        room = room_left k.1.1.1.1.1.0;
      }

  accepts_cone : Accepts t marks → cone_verdict t marks ≡ Ok tt
  unfolding cone_verdict
  accepts_cone a =
      none_applies_accepted (cone_grounds t marks) (
        ap not (and_both (sized t) (eqb (length marks) (words_for (cells_of t))) (valid_is_sized t a.valid) (eq-eqb (length marks) (words_for (cells_of t)) a.words)),
        (
          ap not (valid_is_sound t a.valid),
          (marks_live a.marked_live, (marks_closed a.closed, (marks_low a.below_top, (left_room a.room, tt)))),
        ),
      )

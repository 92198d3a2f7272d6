-- The turns of the loop that writes the cones, and the apex after it: the table is the old one with the cones of the marked cells
-- below s. What carries it: a stored record adds one new cell, a cell that is not marked adds none, and past the last mark none comes.
-- Assumes nothing.
use mathlib.Core.Path.{◌≡◌, refl, ap, ◌∙◌}
use mathlib.Core.Bool.{true, false}
use mathlib.Core.List.{List}
use Prim.Native.Nat.{ℕ, suc, ◌+◌, ◌/◌, ◌≤◌, ◌<◌}
use native.Mathlib.Omega.{arith}
use lib.ListN.{length, get_or, replicate, get_or-replicate}
use Rattle.bitset.specs.Bits.{member}
use Rattle.table.specs.Kind.{capacity, top, faces, width, free_mark, used}
use Rattle.table.specs.Table.{cells_of, dim, face}
use Rattle.table.specs.Records.{record_at, Alike, Stored}
use Rattle.table.proofs.Stores.{alike_then, alike_in}
use Rattle.table.proofs.Records.{live_says}
use Rattle.counting.specs.Counting.{how_many}
use Rattle.counting.proofs.Counting.{how_many_zero, how_many_no_more}
use Rattle.cone.specs.Cone.{apex_of, cone_of, cone_face, coned}
use Rattle.cone.specs.declared.numbers.Numbers.{Numbers}
use Rattle.cone.specs.Parts.{MarkedBelow, over_face, face_by, record_by, Coneable, ConeStored, Ready}
use Rattle.cone.proofs.Acceptance.{Accepts, MarksEnd, ends_inside, cone_accepted}
use Rattle.cone.proofs.GivenNumbers.{free_inside, apex_is_free, cone_is_free}
use Rattle.cone.proofs.Numbering.{marks_counted}
use Rattle.cone.proofs.Sides.{used_most, used_side}
use Rattle.cone.proofs.Building.{partly, partly_none, old_record, cones_to, live_kept, no_cones, cone_written, apex_written}

pub record Raised (t marks u : List ℕ) (s : ℕ) : Type 0 where
  pub size : length u ≡ length t
  pub state : u ≡ partly t marks (cones_to t marks (1 + how_many (member marks) s))

module _ (t marks : List ℕ) (ns : Numbers) (ready : Ready t marks ns) where
  a : Accepts t marks
  a = cone_accepted t marks ready.accepted

  -- the marks have a length that is asked for, and end in the table
  pub words_fit : length marks ≤ capacity
  words_fit = omega (arith, a.words, a.valid.sized.room)

  pub ends : (e : ℕ) → MarkedBelow marks e → MarksEnd t marks e
  ends e b = ends_inside t marks e a.marked_live b

  pub raised_starts : Raised t marks t 0
  raised_starts =
      record {
        size = refl;
        state =
            partly_none t marks (cones_to t marks (1 + how_many (member marks) 0)) a.valid.sized.whole
            (no_cones t marks (how_many (member marks) 0) (how_many_zero (member marks)));
      }

  module _ (u : List ℕ) (s : ℕ) (so_far : Raised t marks u s) where
    cells_kept : cells_of u ≡ cells_of t
    cells_kept = ap (λ (k : ℕ). k / width) so_far.size

    module _ (turn : s < cells_of t) where
      module _ (marked : member marks s ≡ true) where
        s_kept : cones_to t marks (1 + how_many (member marks) s) s ≡ false
        s_kept = live_kept t marks (1 + how_many (member marks) s) s (live_says t s (a.marked_live s marked))

        kept : Alike (record_at u s) (record_at t s)
        kept =
            alike_then (alike_in u _ s so_far.state)
            (old_record t marks (cones_to t marks (1 + how_many (member marks) s)) s turn s_kept)

        dim_kept : dim u s ≡ dim t s
        dim_kept = kept.same_dim

        face_kept : (j : ℕ) → j < faces → face u s j ≡ face t s j
        face_kept = kept.same_face

        low : dim t s < top
        low = a.below_top s marked

        side_inside : (j : ℕ) → j < used (dim t s) → face u s j < capacity
        side_inside j h =
            omega (arith, face_kept j (omega (arith, used_most (dim t s) low, low)), (a.marked_live (face t s j) (a.closed s j marked h)).inside, a.valid.sized.room)

        pub raised_coneable : Coneable u ns s
        raised_coneable =
            record {
              inside = omega (arith, cells_kept);
              few = omega (arith, cells_kept, a.valid.sized.room);
              low = omega (arith, dim_kept, low);
              sides = λ j h. side_inside j (rw (dim_kept) at h);
              place =
                  omega (arith, ready.numbers s marked, free_inside t (cone_of t marks s) (cone_is_free t marks a s marked), cells_kept);
            }

        -- the faces that were written are those of the rule
        over_is_cone_face : (j : ℕ) → over_face (dim t s) s (apex_of t) (λ l. cone_of t marks (face t s l)) j ≡ cone_face t marks s j
        unfolding over_face cone_face
        over_is_cone_face j = refl

        faces_right : (j : ℕ) → j < faces → face_by u ns s j ≡ cone_face t marks s j
        faces_right j h =
            ap (λ (p : ℕ). over_face p s ns.apex (λ l. get_or ns.cones (face u s l) 0) j) dim_kept
            ∙ ap (λ (x : ℕ). over_face (dim t s) s x (λ l. get_or ns.cones (face u s l) 0) j) ready.is_apex
            ∙ used_side (dim t s) s (apex_of t) (λ l. get_or ns.cones (face u s l) 0) (λ l. cone_of t marks (face t s l)) j low
            (λ i. ap (λ (c : ℕ). get_or ns.cones c 0) (face_kept j h) ∙ ready.numbers (face t s j) (a.closed s j marked i))
            ∙ over_is_cone_face j

        pub raised_more : (u' : List ℕ) → ConeStored u ns s u' → Raised t marks u' (s + 1)
        raised_more u' store =
            record {
              size = store.size ∙ so_far.size;
              state =
                  cone_written t marks a s marked u u' (record_by u ns s) so_far.state
                  (rw (ready.numbers s marked) at store) (record { same_dim = ap suc dim_kept; same_face = faces_right });
            }

      pub raised_kept : member marks s ≡ false → (u' : List ℕ) → u' ≡ u → Raised t marks u' (s + 1)
      raised_kept e u' same =
          record {
            size = ap length same ∙ so_far.size;
            state = rw (same, how_many_no_more (member marks) s e) so_far.state;
          }

    pub apex_fits : ns.apex < cells_of u
    apex_fits = omega (arith, free_inside t (apex_of t) (apex_is_free t marks a), ready.is_apex, cells_kept)

    pub raised_ends : (e : ℕ) → s ≡ e → MarkedBelow marks e → (u' : List ℕ) → Stored ns.apex (record { dim = 0; face = λ j. get_or (replicate faces free_mark) j 0 }) u u' → u' ≡ coned t marks
    raised_ends e i m u' store =
        apex_written t marks a u u' (record { dim = 0; face = λ j. get_or (replicate faces free_mark) j 0 })
        (so_far.state ∙ ap (λ (k : ℕ). partly t marks (cones_to t marks (1 + k))) (marks_counted t marks s e i (ends e m)))
        (rw ready.is_apex at store) (record { same_dim = refl; same_face = λ j l. get_or-replicate faces j free_mark 0 l })

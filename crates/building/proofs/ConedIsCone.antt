-- What an accepted cone leaves is a cone as it was published.
-- What carries it: a record of the table left is given by the cases 'given out' and 'apex', and `GivenNumbers` decides them at the old
-- cells, the apex, the cones and the rest. Assumes nothing.
use mathlib.Core.Path.{◌≡◌, refl, sym, ◌∙◌}
use mathlib.Core.Bool.{true, false}
use mathlib.Core.List.{List}
use mathlib.Core.Logic.{⊎_elim}
use Prim.Native.Nat.{ℕ, suc, ◌*◌, ◌<◌}
use native.Mathlib.Omega.{arith}
use borrow.Author.Tests.{eq-eqb, ne_eqb, lt-ltb, le-ltb, ltb-true}
use lib.ListN.{length}
use lib.Dec.{eqb, ltb}
use Rattle.bitset.specs.Bits.{member}
use Rattle.table.specs.Kind.{faces, width, free_mark, used}
use Rattle.table.specs.Table.{cells_of, dim, face, live}
use Rattle.table.specs.Records.{Record, record_at}
use Rattle.std.specs.declared.result.Result.TheVariants.{Ok}
use Prim.{tt}
use Rattle.table.proofs.Words.{length_table_of, dim_table_of, face_table_of}
use Rattle.table.proofs.Records.{live_true}
use Rattle.table.proofs.Places.{used_says}
use Rattle.counting.specs.Counting.{how_many, pick}
use Rattle.cone.specs.Cone.{free, apex_of, cone_of, base_of, new_cells, cone_face, given, coned, cone_verdict, point_record, cone_record}
use Rattle.building.specs.ConeRule.{Earlier, IsCone}
use Rattle.counting.proofs.Cases.{true_or_false, and_right}
use Rattle.cone.proofs.Acceptance.{Accepts, cone_accepted}
use Rattle.cone.proofs.GivenNumbers.{free_inside, live_not_free, apex_is_free, apex_is_lowest, apex_given, cone_is_free, cone_given, apex_below_cone, cones_rise, base_of_cone, base_marked, cone_of_base, below_given, base_before}

module _ (t marks : List ℕ) where
  abbrev new_record : ℕ → Record
  new_record c = pick (given t marks c) (pick (eqb c (apex_of t)) point_record (cone_record t marks (base_of t marks c))) (record_at t c)

  length_coned : length (coned t marks) ≡ cells_of t * width
  unfolding coned
  length_coned = length_table_of (cells_of t) new_record

  dim_coned : (c : ℕ) → c < cells_of t → dim (coned t marks) c ≡ (new_record c).dim
  unfolding coned
  dim_coned c h = dim_table_of (cells_of t) new_record c h

  face_coned : (c j : ℕ) → c < cells_of t → j < faces → face (coned t marks) c j ≡ (new_record c).face j
  unfolding coned
  face_coned c j h l = face_table_of (cells_of t) new_record c j h l

  -- a record that is not given out stays
  kept_dim : (c : ℕ) → c < cells_of t → given t marks c ≡ false → dim (coned t marks) c ≡ dim t c
  kept_dim c h e = dim_coned c h ∙ rw e

  kept_face : (c j : ℕ) → c < cells_of t → j < faces → given t marks c ≡ false → face (coned t marks) c j ≡ face t c j
  kept_face c j h l e = face_coned c j h l ∙ rw e

  live_not_given : (c : ℕ) → live t c ≡ true → given t marks c ≡ false
  live_not_given c e = rw (live_not_free t c e)

-- face j of the cone over s: the base, past the base, the apex, and the cone of a face
module _ (t marks : List ℕ) (s : ℕ) where
  face_base : cone_face t marks s (suc (dim t s)) ≡ s
  unfolding cone_face
  face_base = rw (eq-eqb (suc (dim t s)) (suc (dim t s)) refl)

  face_past : (j : ℕ) → suc (dim t s) < j → cone_face t marks s j ≡ free_mark
  unfolding cone_face
  face_past j h = rw (ne_eqb j (suc (dim t s)) (λ e. omega arith), lt-ltb (suc (dim t s)) j h)

  face_tip : dim t s ≡ 0 → cone_face t marks s 0 ≡ apex_of t
  unfolding cone_face
  face_tip z =
      rw (ne_eqb 0 (suc (dim t s)) (λ e. omega arith), le-ltb (suc (dim t s)) 0 (omega arith), eq-eqb (dim t s) 0 z)

  face_side : (j : ℕ) → j < used (dim t s) → cone_face t marks s j ≡ cone_of t marks (face t s j)
  unfolding cone_face
  face_side j h =
      let u = used_says (dim t s) j h in
      rw (ne_eqb j (suc (dim t s)) (λ e. omega (arith, u.2)), le-ltb (suc (dim t s)) j (omega (arith, u.2)), ne_eqb (dim t s) 0 (λ e. omega (arith, u.0)))

module _ (t marks : List ℕ) (a : Accepts t marks) where
  apex_inside : apex_of t < cells_of t
  apex_inside = free_inside t (apex_of t) (apex_is_free t marks a)

  cone_inside : (s : ℕ) → member marks s ≡ true → cone_of t marks s < cells_of t
  cone_inside s m = free_inside t (cone_of t marks s) (cone_is_free t marks a s m)

  dim_of_apex : dim (coned t marks) (apex_of t) ≡ 0
  dim_of_apex =
      dim_coned t marks (apex_of t) apex_inside
      ∙ rw (apex_given t marks a, eq-eqb (apex_of t) (apex_of t) refl)

  face_of_apex : (j : ℕ) → j < faces → face (coned t marks) (apex_of t) j ≡ free_mark
  face_of_apex j h =
      face_coned t marks (apex_of t) j apex_inside h
      ∙ rw (apex_given t marks a, eq-eqb (apex_of t) (apex_of t) refl)

  cone_not_apex : (s : ℕ) → member marks s ≡ true → eqb (cone_of t marks s) (apex_of t) ≡ false
  cone_not_apex s m =
      ne_eqb (cone_of t marks s) (apex_of t) (λ e. omega (arith, apex_below_cone t marks a s m))

  dim_of_cone : (s : ℕ) → member marks s ≡ true → dim (coned t marks) (cone_of t marks s) ≡ suc (dim t s)
  dim_of_cone s m =
      dim_coned t marks (cone_of t marks s) (cone_inside s m)
      ∙ rw (cone_given t marks a s m, cone_not_apex s m, base_of_cone t marks a s m)

  face_of_cone : (s j : ℕ) → member marks s ≡ true → j < faces → face (coned t marks) (cone_of t marks s) j ≡ cone_face t marks s j
  face_of_cone s j m h =
      face_coned t marks (cone_of t marks s) j (cone_inside s m) h
      ∙ rw (cone_given t marks a s m, cone_not_apex s m, base_of_cone t marks a s m)

  -- a free number that is neither the apex nor a cone is not given out
  rest_not_given : (c : ℕ) → free t c ≡ true → (c ≡ apex_of t → ⊥) → ((s : ℕ) → member marks s ≡ true → c ≡ cone_of t marks s → ⊥) → given t marks c ≡ false
  rest_not_given c f other none =
      ⊎_elim
      (λ e.
      let g : how_many (free t) c < new_cells t marks = ltb-true (how_many (free t) c) (new_cells t marks) (and_right (free t c) (ltb (how_many (free t) c) (new_cells t marks)) e) in
      absurd (none (base_of t marks c) (base_marked t marks a c f g other) (sym (cone_of_base t marks a c f g other))))
      (λ e. e)
      (true_or_false (given t marks c))

  earlier : (s c : ℕ) → member marks s ≡ true → free t c ≡ true → c < cone_of t marks s → (c ≡ apex_of t → ⊥) → Earlier marks (cone_of t marks) s c
  earlier s c m f h other =
      let g = below_given t marks a s c m f h other in
      record {
        base = base_of t marks c;
        marked = base_marked t marks a c f g other;
        before = base_before t marks a s c m f h other;
        is_cone = sym (cone_of_base t marks a c f g other);
      }

  pub coned_is_cone : IsCone t marks (apex_of t) (cone_of t marks) (coned t marks)
  coned_is_cone =
      record {
        size = length_coned t marks ∙ sym a.valid.sized.whole;
        old_dim = λ c e. kept_dim t marks c (live_true t c e).inside (live_not_given t marks c e);
        old_face = λ c j e h. kept_face t marks c j (live_true t c e).inside h (live_not_given t marks c e);
        apex_free = apex_is_free t marks a;
        apex_lowest = apex_is_lowest t marks a;
        cone_free = cone_is_free t marks a;
        cone_next = earlier;
        cone_after = cones_rise t marks a;
        cone_not_apex = apex_below_cone t marks a;
        apex_dim = dim_of_apex;
        apex_faces = face_of_apex;
        cone_dim = dim_of_cone;
        cone_base = λ s m. face_of_cone s (suc (dim t s)) m (omega (arith, a.below_top s m)) ∙ face_base t marks s;
        cone_tip = λ s m z. face_of_cone s 0 m (omega arith) ∙ face_tip t marks s z;
        cone_side = λ s j m h.
            let u = used_says (dim t s) j h in
            face_of_cone s j m (omega (arith, u.1, u.2)) ∙ face_side t marks s j h;
        cone_unused = λ s j m h l. face_of_cone s j m l ∙ face_past t marks s j h;
        rest_dim = λ c f other none. kept_dim t marks c (free_inside t c f) (rest_not_given c f other none);
        rest_face = λ c j f h other none. kept_face t marks c j (free_inside t c f) h (rest_not_given c f other none);
      }

pub accepted_is_cone : (t marks : List ℕ) → cone_verdict t marks ≡ Ok tt → IsCone t marks (apex_of t) (cone_of t marks) (coned t marks)
accepted_is_cone t marks e = coned_is_cone t marks (cone_accepted t marks e)

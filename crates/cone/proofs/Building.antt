-- The table while the new cells are written: new where already written, old elsewhere. One stored record adds one new cell.
-- What carries it: a new cell is known by its rank among the free numbers, 0 for the apex and 1 more than the rank of its base
-- among the marked cells for a cone. Assumes nothing.
use mathlib.Core.Path.{◌≡◌, refl, sym, ap, ◌∙◌}
use mathlib.Core.Logic.{⊎_elim}
use mathlib.Core.Bool.{Bool, true, false, ◌&&◌}
use mathlib.Core.List.{List}
use Prim.Native.Nat.{ℕ, ◌+◌, ◌*◌, ◌<◌}
use native.Mathlib.Omega.{arith}
use borrow.Author.Tests.{lt-ltb, le-ltb, eq-eqb, ne_eqb}
use lib.ListN.{length}
use lib.Dec.{ltb, eqb}
use Rattle.bitset.specs.Bits.{member}
use Rattle.table.specs.Kind.{width}
use Rattle.table.specs.Table.{cells_of, live}
use Rattle.table.specs.Records.{Record, record_at, table_of, Alike, Stored}
use Rattle.counting.proofs.Cases.{below_or_not}
use Rattle.table.proofs.Words.{length_table_of, record_table_of, table_by_records}
use Rattle.table.proofs.Stores.{alike_back, stored_table}
use Rattle.counting.specs.Counting.{how_many, pick}
use Rattle.counting.proofs.Counting.{how_many_yes_more, same_rank}
use Rattle.cone.specs.Cone.{free, apex_of, cone_of, base_of, new_cells, given, point_record, cone_record, coned}
use Rattle.cone.proofs.Acceptance.{Accepts}
use Rattle.cone.proofs.GivenNumbers.{live_not_free, apex_is_free, apex_rank, apex_given, cone_is_free, cone_rank, apex_below_cone, base_of_cone}
use Rattle.cone.proofs.Sides.{between}

module _ (t marks : List ℕ) where
  abbrev rank : ℕ → ℕ
  rank c = how_many (free t) c

  -- new at the numbers that have g, old elsewhere
  abbrev new_record : (ℕ → Bool) → ℕ → Record
  new_record g c = pick (g c) (pick (eqb c (apex_of t)) point_record (cone_record t marks (base_of t marks c))) (record_at t c)

  abbrev pub partly : (ℕ → Bool) → List ℕ
  partly g = table_of (cells_of t) (new_record g)

  module _ (g : ℕ → Bool) where
    -- an old record is read as it was
    pub old_record : (c : ℕ) → c < cells_of t → g c ≡ false → Alike (record_at (partly g) c) (record_at t c)
    old_record c h e =
        let r = record_table_of (cells_of t) (new_record g) c h in
        record { same_dim = r.same_dim ∙ rw e; same_face = λ j k. r.same_face j k ∙ rw e }

    -- nothing new yet
    pub partly_none : length t ≡ cells_of t * width → ((c : ℕ) → g c ≡ false) → t ≡ partly g
    partly_none e none-new =
        table_by_records t (partly g) (cells_of t) e (length_table_of (cells_of t) (new_record g))
        (λ c h. alike_back (old_record c h (none-new c)))

    -- one number more
    module _ (g' : ℕ → Bool) (c : ℕ) (is-new : g' c ≡ true) (others : (s : ℕ) → (s ≡ c → ⊥) → g s ≡ g' s) where
      partly_more : (u u' : List ℕ) (r : Record) → u ≡ partly g → Stored c r u u' → Alike r (new_record g' c) → u' ≡ partly g'
      partly_more u u' r was store new =
          stored_table (cells_of t) (new_record g) (new_record g') r u u' c was store new
          (λ s h ne. record { same_dim = rw (others s ne); same_face = λ j k. rw (others s ne) })

  -- the cones of rank below k
  abbrev pub cones_to : ℕ → ℕ → Bool
  cones_to k c = free t c && (ltb 0 (rank c) && ltb (rank c) k)

  pub live_kept : (k c : ℕ) → live t c ≡ true → cones_to k c ≡ false
  live_kept k c e = rw (live_not_free t c e)

  pub no_cones : (k : ℕ) → k ≡ 0 → (c : ℕ) → cones_to (1 + k) c ≡ false
  no_cones k z c = go (free t c)
    where
      go : (b : Bool) → (b && (ltb 0 (rank c) && ltb (rank c) (1 + k))) ≡ false
      go false = refl
      go true =
          ⊎_elim
          (λ h. rw (lt-ltb 0 (rank c) h, le-ltb (rank c) (1 + k) (omega arith)))
          (λ h. rw (le-ltb 0 (rank c) h))
          (below_or_not 0 (rank c))

  module _ (a : Accepts t marks) where
    -- the turn at a marked cell
    module _ (s : ℕ) (marked : member marks s ≡ true) where
      abbrev cone : ℕ
      cone = cone_of t marks s

      abbrev k : ℕ
      k = 1 + how_many (member marks) s

      cone_here : cones_to (k + 1) cone ≡ true
      cone_here =
          rw (
            cone_is_free t marks a s marked,
            lt-ltb 0 (rank cone) (omega (arith, cone_rank t marks a s marked)),
            lt-ltb (rank cone) (k + 1) (omega (arith, cone_rank t marks a s marked)),
          )

      cone_else : (c : ℕ) → (c ≡ cone → ⊥) → cones_to k c ≡ cones_to (k + 1) c
      cone_else c ne = go (free t c) refl
        where
          go : (b : Bool) → free t c ≡ b → (b && (ltb 0 (rank c) && ltb (rank c) k)) ≡ (b && (ltb 0 (rank c) && ltb (rank c) (k + 1)))
          go false e = refl
          go true e =
              ap (λ (b : Bool). ltb 0 (rank c) && b)
              (between (rank c) k (λ q. ne (same_rank (free t) c cone e (cone_is_free t marks a s marked) (q ∙ sym (cone_rank t marks a s marked)))))

      pub cone_written : (u u' : List ℕ) (r : Record) → u ≡ partly (cones_to k) → Stored cone r u u' → Alike r (cone_record t marks s) → u' ≡ partly (cones_to (1 + how_many (member marks) (s + 1)))
      cone_written u u' r was store new =
          let other : eqb cone (apex_of t) ≡ false = ne_eqb cone (apex_of t) (λ e. omega (arith, apex_below_cone t marks a s marked)) in
          let m : 1 + how_many (member marks) (s + 1) ≡ k + 1 = omega (arith, how_many_yes_more (member marks) s marked) in
          rw m
          (partly_more (cones_to k) (cones_to (k + 1)) cone cone_here cone_else u u' r was store
          (record {
            same_dim = new.same_dim ∙ sym (rw (cone_here, other, base_of_cone t marks a s marked));
            same_face = λ j h. new.same_face j h ∙ sym (rw (cone_here, other, base_of_cone t marks a s marked));
          }))

    -- the apex is the last record written
    apex_else : (c : ℕ) → (c ≡ apex_of t → ⊥) → cones_to (1 + how_many (member marks) (cells_of t)) c ≡ given t marks c
    unfolding new_cells
    apex_else c ne = go (free t c) refl
      where
        go : (b : Bool) → free t c ≡ b → (b && (ltb 0 (rank c) && ltb (rank c) (1 + how_many (member marks) (cells_of t)))) ≡ (b && ltb (rank c) (1 + how_many (member marks) (cells_of t)))
        go false e = refl
        go true e =
            let z : (rank c ≡ 0 → ⊥) = λ q. ne (same_rank (free t) c (apex_of t) e (apex_is_free t marks a) (q ∙ sym (apex_rank t marks a))) in
            rw (lt-ltb 0 (rank c) (omega arith))

    pub apex_written : (u u' : List ℕ) (r : Record) → u ≡ partly (cones_to (1 + how_many (member marks) (cells_of t))) → Stored (apex_of t) r u u' → Alike r point_record → u' ≡ coned t marks
    unfolding coned
    apex_written u u' r was store new =
        let here : eqb (apex_of t) (apex_of t) ≡ true = eq-eqb (apex_of t) (apex_of t) refl in
        partly_more (cones_to (1 + how_many (member marks) (cells_of t))) (given t marks) (apex_of t) (apex_given t marks a) apex_else u u' r was store
        (record {
          same_dim = new.same_dim ∙ sym (rw (apex_given t marks a, here));
          same_face = λ j h. new.same_face j h ∙ sym (rw (apex_given t marks a, here));
        })

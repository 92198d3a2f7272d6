-- A breach is a test of the search that fails, and a test that fails is a breach; so a cell that the search passes has none.
-- What carries it: each test, read as the fact that it tests. Assumes nothing.
use mathlib.Core.Path.{◌≡◌, refl, sym, ◌∙◌}
use mathlib.Core.Bool.{Bool, true, false, false≢true, ◌&&◌, ◌||◌}
use mathlib.Core.List.{List}
use mathlib.Core.Logic.{◌⊎◌, inl, inr, ⊎_elim}
use Prim.Native.Nat.{ℕ, ◌≤◌, ◌<◌}
use native.Mathlib.Omega.{arith}
use borrow.Author.Tests.{eq-eqb, leb-false, ltb-false}
use lib.Dec.{leb, ltb, eqb}
use Rattle.counting.specs.Counting.{all}
use Rattle.counting.proofs.Tests.{all_false}
use Rattle.calls.specs.declared.Breach.{Breach}
use Rattle.calls.specs.declared.Breach.TheVariants.{Record, Face, Law}
use Rattle.table.specs.Kind.{top, faces, free_mark, used}
use Rattle.table.specs.Table.{cells_of, dim, face}
use Rattle.table.proofs.Places.{used_is, used_says}
use Rattle.audit.specs.Audit.{record_sound, face_sound, law_sound, law_places}
use Rattle.audit.specs.First.{IsBreach}
use Rattle.audit.specs.First.IsBreach.{no_kind, stray, no_face, no_law}
use Rattle.audit.proofs.Places.{law_places_is, law_places_says}
use Rattle.audit.proofs.Valid.{SoundCell, record_kind, record_unused, face_inside, face_below, face_says, law_true, law_says}

-- A breach is a test that fails.

module _ (t : List ℕ) where
  pub record_fails : (c : ℕ) → IsBreach t (Record c) → record_sound t c ≡ true → ⊥
  record_fails c (no_kind i h k) e = ⊎_elim (λ l. omega arith) k (record_kind t c e)
  record_fails c (stray i s) e = s.differs (record_unused t c e s.place s.unused s.inside)

  pub face_fails : (c j : ℕ) → IsBreach t (Face c j) → face_sound t c j ≡ true → ⊥
  face_fails c j (no_face v h k) e =
      let down = face_below t c j e in
      k (record { named = record { inside = face_inside t c j e; low = omega (arith, v.low, down) }; one_down = down })

  pub law_fails : (c j l : ℕ) → IsBreach t (Law c j l) → law_sound t c j l ≡ true → ⊥
  law_fails c j l (no_law v h k m i i' n) e = n (law_true t c j l e)

  -- And a test that fails is a breach.

  or_fails : (a b : Bool) → (a || b) ≡ false → (a ≡ false) × (b ≡ false)
  or_fails true b e = absurd (false≢true (sym e))
  or_fails false b e = (refl, e)

  and_fails : (a b : Bool) → (a && b) ≡ false → (a ≡ false) ⊎ (b ≡ false)
  and_fails true b e = inr e
  and_fails false b e = inl refl

  pub record_breaks : (c : ℕ) → c < cells_of t → record_sound t c ≡ false → IsBreach t (Record c)
  unfolding record_sound
  record_breaks c i e = ⊎_elim kind unused (and_fails (leb (dim t c) top || eqb (dim t c) free_mark) (all faces (λ j. ltb j (used (dim t c)) || eqb (face t c j) free_mark)) e)
    where
      kind : (leb (dim t c) top || eqb (dim t c) free_mark) ≡ false → IsBreach t (Record c)
      kind h =
          let k = or_fails (leb (dim t c) top) (eqb (dim t c) free_mark) h in
          no_kind i (leb-false (dim t c) top k.0) (λ f. false≢true (sym k.1 ∙ eq-eqb (dim t c) free_mark f))

      unused : all faces (λ j. ltb j (used (dim t c)) || eqb (face t c j) free_mark) ≡ false → IsBreach t (Record c)
      unused h =
          let w = all_false (λ j. ltb j (used (dim t c)) || eqb (face t c j) free_mark) faces h in
          let k = or_fails (ltb w.number (used (dim t c))) (eqb (face t c w.number) free_mark) w.fails in
          stray i (record {
            place = w.number;
            unused = ltb-false w.number (used (dim t c)) k.0;
            inside = w.below;
            differs = λ f. false≢true (sym k.1 ∙ eq-eqb (face t c w.number) free_mark f);
          })

  pub face_breaks : (c j : ℕ) → c < cells_of t → j < used (dim t c) → face_sound t c j ≡ false → IsBreach t (Face c j)
  face_breaks c j i h e =
      no_face (record { inside = i; low = (used_says (dim t c) j h).1 }) h
      (λ b. false≢true (sym e ∙ face_says t c j b.named.inside b.one_down))

  pub law_breaks :
      (c j l : ℕ) → c < cells_of t → ((k : ℕ) → k < used (dim t c) → face_sound t c k ≡ true) →
      j < law_places (dim t c) → l < j → law_sound t c j l ≡ false → IsBreach t (Law c j l)
  law_breaks c j l i each h k e =
      let p = law_places_says (dim t c) j h in
      let u = used_is (dim t c) (omega (arith, p.0)) p.1 in
      let inside : ((m : ℕ) → m ≤ j → face t c m < cells_of t) = λ m b. face_inside t c m (each m (omega (arith, u, p.2))) in
      no_law (record { inside = i; low = p.1 }) p.0 k p.2 (inside j (omega arith)) (inside l (omega arith))
      (λ f. false≢true (sym e ∙ law_says t c j l f))

-- a cell that passes has no breach
abbrev pub cell_of : Breach → ℕ
cell_of (Record c) = c
cell_of (Face c j) = c
cell_of (Law c j l) = c

pub passed_none : (t : List ℕ) (b : Breach) → IsBreach t b → SoundCell t (cell_of b) → ⊥
passed_none t (Record c) h s = record_fails t c h s.record_holds
passed_none t (Face c j) (no_face v h k) s = face_fails t c j (no_face v h k) (s.faces_hold j h)
passed_none t (Law c j l) (no_law v h k m i i' n) s =
    law_fails t c j l (no_law v h k m i i' n)
    (s.law_holds j l (rw (law_places_is (dim t c) h, used_is (dim t c) (omega arith) v.low) (omega arith)) k)

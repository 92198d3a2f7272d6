-- The audit says 'sound' exactly for the valid tables, so it accepts exactly these.
-- What carries it: each of the published lines is one of the three tests of a cell, and the search passes a cell exactly where
-- all three hold. Assumes nothing.
use mathlib.Core.Path.{◌≡◌, refl, ap}
use mathlib.Core.Bool.{Bool, true, false, ◌||◌}
use mathlib.Core.List.{List}
use mathlib.Core.Logic.{◌⊎◌, inl, inr, ⊎_elim, ◌↔◌}
use Prim.Native.Nat.{ℕ, suc, ◌-◌, ◌≤◌, ◌<◌}
use native.Mathlib.Omega.{arith}
use borrow.Author.Tests.{eq-eqb, le-leb, lt-ltb, le-ltb, eqb-true, leb-true, ltb-true, ltb-false, not-false}
use lib.Dec.{leb, ltb, eqb}
use Rattle.table.specs.Kind.{top, faces, free_mark, used}
use Rattle.table.specs.Table.{cells_of, dim, face, Live, Valid, sized}
use Rattle.counting.specs.Counting.{all}
use Rattle.audit.specs.Audit.{scan, or_else, is_sound, record_sound, face_sound, law_sound, law_places, record_breach, face_breach, law_breach, cell_breach, first_breach, sound, audit_grounds}
use Rattle.calls.specs.Calls.{verdict}
use Rattle.std.specs.declared.option.Option.{Option}
use Rattle.calls.specs.declared.Breach.{Breach}
use Rattle.calls.specs.declared.Breach.TheVariants.{Record, Face, Law}
use Rattle.calls.proofs.Grounds.{accepted_none_applies}
use Rattle.counting.proofs.Cases.{and_left, and_right, and_both}
use Rattle.counting.proofs.Tests.{or_else_lem, all_true, all_says}
use Rattle.audit.proofs.Scans.{or_else_left, or_else_right, or_else_both, sound_true, picked_sound, picks_sound, scan_none, scan_each}
use Rattle.table.proofs.Sizes.{sized_is_sized, sized_says}
use Rattle.table.proofs.Places.{used_is, used_says}
use Rattle.audit.proofs.Places.{law_places_is, law_places_says}
use Rattle.std.specs.declared.result.Result.TheVariants.{Ok}
use Rattle.std.specs.declared.option.Option.TheVariants.{None, Some}
use Prim.{tt}

-- What the three tests of a cell say, and back.

or_cases : (a b : Bool) → (a || b) ≡ true → (a ≡ true) ⊎ (b ≡ true)
or_cases true b e = inl refl
or_cases false b e = inr e

or_first : (a b : Bool) → a ≡ true → (a || b) ≡ true
or_first a b e = rw e

or_second : (a b : Bool) → b ≡ true → (a || b) ≡ true
or_second true b e = refl
or_second false b e = e

module _ (t : List ℕ) (c : ℕ) where
  abbrev has_kind : Bool
  has_kind = leb (dim t c) top || eqb (dim t c) free_mark

  abbrev unused_at : ℕ → Bool
  unused_at j = ltb j (used (dim t c)) || eqb (face t c j) free_mark

  pub record_kind : record_sound t c ≡ true → (dim t c ≤ top) ⊎ (dim t c ≡ free_mark)
  unfolding record_sound
  record_kind e =
      ⊎_elim (λ h. inl (leb-true (dim t c) top h)) (λ h. inr (eqb-true (dim t c) free_mark h))
      (or_cases (leb (dim t c) top) (eqb (dim t c) free_mark) (and_left has_kind (all faces unused_at) e))

  pub record_unused : record_sound t c ≡ true → (j : ℕ) → used (dim t c) ≤ j → j < faces → face t c j ≡ free_mark
  unfolding record_sound
  record_unused e j h l =
      eqb-true (face t c j) free_mark
      (or_else_lem (ltb j (used (dim t c))) (eqb (face t c j) free_mark)
      (all_true unused_at faces (and_right has_kind (all faces unused_at) e) j l)
      (le-ltb j (used (dim t c)) h))

  kind_says : (dim t c ≤ top) ⊎ (dim t c ≡ free_mark) → has_kind ≡ true
  kind_says =
      ⊎_elim
      (λ h. or_first (leb (dim t c) top) (eqb (dim t c) free_mark) (le-leb (dim t c) top h))
      (λ h. or_second (leb (dim t c) top) (eqb (dim t c) free_mark) (eq-eqb (dim t c) free_mark h))

  unused_says : ((j : ℕ) → used (dim t c) ≤ j → j < faces → face t c j ≡ free_mark) → (j : ℕ) → j < faces → (b : Bool) → ltb j (used (dim t c)) ≡ b → unused_at j ≡ true
  unused_says h j l true e = or_first (ltb j (used (dim t c))) (eqb (face t c j) free_mark) e
  unused_says h j l false e =
      or_second (ltb j (used (dim t c))) (eqb (face t c j) free_mark)
      (eq-eqb (face t c j) free_mark (h j (ltb-false j (used (dim t c)) e) l))

  pub record_says : (dim t c ≤ top) ⊎ (dim t c ≡ free_mark) → ((j : ℕ) → used (dim t c) ≤ j → j < faces → face t c j ≡ free_mark) → record_sound t c ≡ true
  unfolding record_sound
  record_says k h =
      and_both has_kind (all faces unused_at) (kind_says k)
      (all_says unused_at faces (λ j l. unused_says h j l (ltb j (used (dim t c))) refl))

  pub face_inside : (j : ℕ) → face_sound t c j ≡ true → face t c j < cells_of t
  unfolding face_sound
  face_inside j e =
      ltb-true (face t c j) (cells_of t)
      (and_left (ltb (face t c j) (cells_of t)) (eqb (dim t c) (suc (dim t (face t c j)))) e)

  pub face_below : (j : ℕ) → face_sound t c j ≡ true → dim t c ≡ suc (dim t (face t c j))
  unfolding face_sound
  face_below j e =
      eqb-true (dim t c) (suc (dim t (face t c j)))
      (and_right (ltb (face t c j) (cells_of t)) (eqb (dim t c) (suc (dim t (face t c j)))) e)

  pub face_says : (j : ℕ) → face t c j < cells_of t → dim t c ≡ suc (dim t (face t c j)) → face_sound t c j ≡ true
  unfolding face_sound
  face_says j h e =
      and_both (ltb (face t c j) (cells_of t)) (eqb (dim t c) (suc (dim t (face t c j))))
      (lt-ltb (face t c j) (cells_of t) h)
      (eq-eqb (dim t c) (suc (dim t (face t c j))) e)

  pub law_true : (j l : ℕ) → law_sound t c j l ≡ true → face t (face t c j) l ≡ face t (face t c l) (j - 1)
  unfolding law_sound
  law_true j l e = eqb-true (face t (face t c j) l) (face t (face t c l) (j - 1)) e

  pub law_says : (j l : ℕ) → face t (face t c j) l ≡ face t (face t c l) (j - 1) → law_sound t c j l ≡ true
  unfolding law_sound
  law_says j l e = eq-eqb (face t (face t c j) l) (face t (face t c l) (j - 1)) e

-- What a cell that the search passes has.
pub record SoundCell (t : List ℕ) (c : ℕ) : Type 0 where
  pub record_holds : record_sound t c ≡ true
  pub faces_hold : (j : ℕ) → j < used (dim t c) → face_sound t c j ≡ true
  pub law_holds : (j l : ℕ) → j < law_places (dim t c) → l < j → law_sound t c j l ≡ true

abbrev pub law_scan : List ℕ → ℕ → ℕ → Option Breach
law_scan t c j = scan (law_breach t c j) j

pub passed_cell : (t : List ℕ) (c : ℕ) → cell_breach t c ≡ None → SoundCell t c
unfolding cell_breach record_breach face_breach law_breach
passed_cell t c e =
    let places : Option Breach = scan (face_breach t c) (used (dim t c)) in
    let pairs : Option Breach = scan (law_scan t c) (law_places (dim t c)) in
    let later = or_else_right (record_breach t c) (or_else places pairs) e in
    record {
      record_holds = picked_sound (record_sound t c) (Some (Record c)) refl (or_else_left (record_breach t c) (or_else places pairs) e);
      faces_hold = λ j h. picked_sound (face_sound t c j) (Some (Face c j)) refl (scan_each (face_breach t c) (used (dim t c)) (or_else_left places pairs later) j h);
      law_holds = λ j l h k. picked_sound (law_sound t c j l) (Some (Law c j l)) refl (scan_each (law_breach t c j) j (scan_each (law_scan t c) (law_places (dim t c)) (or_else_right places pairs later) j h) l k);
    }

pub passes_cell : (t : List ℕ) (c : ℕ) → SoundCell t c → cell_breach t c ≡ None
unfolding cell_breach record_breach face_breach law_breach
passes_cell t c s =
    let places : Option Breach = scan (face_breach t c) (used (dim t c)) in
    let pairs : Option Breach = scan (law_scan t c) (law_places (dim t c)) in
    or_else_both (record_breach t c) (or_else places pairs)
    (picks_sound (record_sound t c) (Some (Record c)) s.record_holds)
    (or_else_both places pairs
    (scan_none (face_breach t c) (used (dim t c)) (λ j h. picks_sound (face_sound t c j) (Some (Face c j)) (s.faces_hold j h)))
    (scan_none (law_scan t c) (law_places (dim t c))
    (λ j h. scan_none (law_breach t c j) j (λ l k. picks_sound (law_sound t c j l) (Some (Law c j l)) (s.law_holds j l h k)))))

-- The search finds nothing exactly where every cell passes.
sound_cells : (t : List ℕ) → sound t ≡ true → (c : ℕ) → c < cells_of t → SoundCell t c
unfolding sound first_breach
sound_cells t e c h =
    passed_cell t c (scan_each (cell_breach t) (cells_of t) (sound_true (first_breach t) e) c h)

cells_sound : (t : List ℕ) → ((c : ℕ) → c < cells_of t → SoundCell t c) → sound t ≡ true
unfolding sound first_breach
cells_sound t each =
    ap is_sound (scan_none (cell_breach t) (cells_of t) (λ c h. passes_cell t c (each c h)))

pub sound_is_valid : (t : List ℕ) → sized t ≡ true → sound t ≡ true → Valid t
sound_is_valid t z e =
    let at : ((c : ℕ) → c < cells_of t → SoundCell t c) = sound_cells t e in
    let down : ((c j : ℕ) → Live t c → j < used (dim t c) → dim t c ≡ suc (dim t (face t c j))) = λ c j v h. face_below t c j ((at c v.inside).faces_hold j h) in
    record {
      sized = sized_is_sized t z;
      records = λ c h. record_kind t c (at c h).record_holds;
      unused = λ c j h u l. record_unused t c (at c h).record_holds j u l;
      face_live = λ c j v h. record { inside = face_inside t c j ((at c v.inside).faces_hold j h); low = omega (arith, down c j v h, v.low) };
      face_dim = down;
      law = λ c j l v h k m. law_true t c j l ((at c v.inside).law_holds j l (rw (law_places_is (dim t c) h, used_is (dim t c) (omega arith) v.low) (omega arith)) k);
    }

valid_cell : (t : List ℕ) → Valid t → (c : ℕ) → c < cells_of t → SoundCell t c
valid_cell t v c h =
    record {
      record_holds = record_says t c (v.records c h) (λ j u l. v.unused c j h u l);
      faces_hold = λ j k.
          let q = used_says (dim t c) j k in
          let a : Live t c = record { inside = h; low = q.1 } in
          face_says t c j (v.face_live c j a k).inside (v.face_dim c j a k);
      law_holds = λ j l k m.
          let q = law_places_says (dim t c) j k in
          law_says t c j l (v.law c j l (record { inside = h; low = q.1 }) q.0 m q.2);
    }

pub valid_is_sound : (t : List ℕ) → Valid t → sound t ≡ true
valid_is_sound t v = cells_sound t (valid_cell t v)

pub valid_is_sized : (t : List ℕ) → Valid t → sized t ≡ true
valid_is_sized t v = sized_says t v.sized

pub audit_accepts_iff_valid : (t : List ℕ) → (verdict (audit_grounds t) ≡ Ok tt) ↔ Valid t
audit_accepts_iff_valid t = (
  λ e. let k = accepted_none_applies (audit_grounds t) e in sound_is_valid t (not-false (sized t) k.0) (not-false (sound t) k.1.0),
  λ v. simp (valid_is_sized t v, valid_is_sound t v),
)

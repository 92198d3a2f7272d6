-- Where the search stops, and what it has seen by then: within a cell the record, then the face places, then the pairs of the law.
-- What carries it: the search is a chain of tests, of which the first that fails decides. Assumes nothing.
use mathlib.Core.Path.{◌≡◌, refl, subst}
use mathlib.Core.Bool.{Bool, true, false}
use mathlib.Core.List.{List}
use mathlib.Core.Logic.{◌⊎◌, inl, inr, ⊎_elim}
use Prim.Native.Nat.{ℕ, zero, suc, ◌<◌}
use native.Mathlib.Omega.{arith}
use Rattle.counting.specs.Counting.{pick}
use Rattle.calls.specs.declared.Breach.{Breach}
use Rattle.calls.specs.declared.Breach.TheVariants.{Record, Face, Law}
use Rattle.table.specs.Kind.{used}
use Rattle.table.specs.Table.{dim}
use Rattle.std.specs.declared.option.Option.{Option}
use Rattle.std.specs.declared.option.Option.TheVariants.{None, Some}
use Rattle.audit.specs.Audit.{scan, or_else, record_sound, face_sound, law_sound, law_places, record_breach, face_breach, law_breach, cell_breach}
use Rattle.audit.proofs.Scans.{scan_each}
use Rattle.audit.proofs.Valid.{law_scan}

-- Where a search stops: at the first number at which something is found.
pub record Stops (f : ℕ → Option Breach) (n : ℕ) (b : Breach) : Type 0 where
  pub number : ℕ
  pub below : number < n
  pub found : f number ≡ Some b
  pub earlier : (k : ℕ) → k < number → f k ≡ None

or_else_found : (x y : Option Breach) (b : Breach) → or_else x y ≡ Some b → (x ≡ Some b) ⊎ ((x ≡ None) × (y ≡ Some b))
or_else_found None y b e = inr (refl, e)
or_else_found (Some a) y b e = inl e

pub scan_stops : (f : ℕ → Option Breach) (n : ℕ) (b : Breach) → scan f n ≡ Some b → Stops f n b
unfolding scan
scan_stops f zero b e = let z : ◌≡◌ {A = ℕ} 0 1 = cc in absurd (omega arith)
scan_stops f (suc n) b e =
    ⊎_elim
    (λ h. let s = scan_stops f n b h in record { number = s.number; below = omega (arith, s.below); found = s.found; earlier = s.earlier })
    (λ h. record { number = n; below = omega arith; found = h.1; earlier = scan_each f n h.0 })
    (or_else_found (scan f n) (f n) b e)

pick_found : (a : Bool) (x b : Breach) → pick a None (Some x) ≡ Some b → (a ≡ false) × (x ≡ b)
pick_found true x b e = let z : ◌≡◌ {A = ℕ} 0 1 = cc in absurd (omega arith)
pick_found false x b e = (refl, cc)

pick_passed : (a : Bool) (x : Breach) → pick a None (Some x) ≡ None → a ≡ true
pick_passed true x e = refl
pick_passed false x e = let z : ◌≡◌ {A = ℕ} 0 1 = cc in absurd (omega arith)

-- What the search has found of cell c where it stops in it: a test fails, and every test before it holds.
pub data StopsIn (t : List ℕ) (c : ℕ) : Breach → Type 0 where
  at_record : record_sound t c ≡ false → StopsIn t c (Record c)
  at_face : (j : ℕ) → record_sound t c ≡ true → j < used (dim t c) → face_sound t c j ≡ false → ((k : ℕ) → k < j → face_sound t c k ≡ true) → StopsIn t c (Face c j)
  at_law : (j l : ℕ) → record_sound t c ≡ true → ((k : ℕ) → k < used (dim t c) → face_sound t c k ≡ true) → j < law_places (dim t c) → l < j → law_sound t c j l ≡ false → ((i k : ℕ) → i < j → k < i → law_sound t c i k ≡ true) → ((k : ℕ) → k < l → law_sound t c j k ≡ true) → StopsIn t c (Law c j l)

module _ (t : List ℕ) (c : ℕ) (b : Breach) where
  stops_record : record_breach t c ≡ Some b → StopsIn t c b
  unfolding record_breach
  stops_record e = let h = pick_found (record_sound t c) (Record c) b e in subst (StopsIn t c) h.1 (at_record h.0)

  stops_face : record_sound t c ≡ true → scan (face_breach t c) (used (dim t c)) ≡ Some b → StopsIn t c b
  unfolding face_breach
  stops_face r e =
      let s = scan_stops (face_breach t c) (used (dim t c)) b e in
      let j = s.number in
      let h = pick_found (face_sound t c j) (Face c j) b s.found in
      subst (StopsIn t c) h.1 (at_face j r s.below h.0 (λ k l. pick_passed (face_sound t c k) (Face c k) (s.earlier k l)))

  stops_law : record_sound t c ≡ true → ((k : ℕ) → k < used (dim t c) → face_sound t c k ≡ true) → scan (law_scan t c) (law_places (dim t c)) ≡ Some b → StopsIn t c b
  unfolding law_breach
  stops_law r each e =
      let s = scan_stops (law_scan t c) (law_places (dim t c)) b e in
      let j = s.number in
      let u = scan_stops (law_breach t c j) j b s.found in
      let l = u.number in
      let h = pick_found (law_sound t c j l) (Law c j l) b u.found in
      subst (StopsIn t c) h.1
      (at_law j l r each s.below u.below h.0
      (λ i k p q. pick_passed (law_sound t c i k) (Law c i k) (scan_each (law_breach t c i) i (s.earlier i p) k q))
      (λ k q. pick_passed (law_sound t c j k) (Law c j k) (u.earlier k q)))

  pub stops_in : cell_breach t c ≡ Some b → StopsIn t c b
  unfolding cell_breach record_breach face_breach
  stops_in e =
      ⊎_elim stops_record
      (λ h. let r = pick_passed (record_sound t c) (Record c) h.0 in
      ⊎_elim (stops_face r)
      (λ k. stops_law r (λ i q. pick_passed (face_sound t c i) (Face c i) (scan_each (face_breach t c) (used (dim t c)) k.0 i q)) k.1)
      (or_else_found (scan (face_breach t c) (used (dim t c))) (scan (law_scan t c) (law_places (dim t c))) b h.1))
      (or_else_found (record_breach t c) (or_else (scan (face_breach t c) (used (dim t c))) (scan (law_scan t c) (law_places (dim t c)))) b e)

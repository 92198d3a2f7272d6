-- What the search finds is the first breach, and it finds nothing exactly where there is none.
-- What carries it: a cell before the one where the search stops has no breach, and within that cell it goes in the order of the keys.
-- Assumes nothing.
use mathlib.Core.Path.{◌≡◌, refl, sym, ap, ◌∙◌}
use mathlib.Core.List.{List}
use mathlib.Core.Logic.{inl, inr, ⊎_elim, ◌↔◌}
use Prim.Native.Nat.{ℕ, ◌<◌}
use native.Mathlib.Omega.{arith}
use Rattle.counting.specs.Dictionary.{Before}
use Rattle.counting.proofs.Dictionary.{before_same_after}
use Rattle.calls.specs.declared.Breach.{Breach}
use Rattle.calls.specs.declared.Breach.TheVariants.{Record, Face, Law}
use Rattle.table.specs.Table.{cells_of}
use Rattle.std.specs.declared.option.Option.{Option}
use Rattle.std.specs.declared.option.Option.TheVariants.{None, Some}
use Rattle.audit.specs.Audit.{cell_breach, first_breach}
use Rattle.audit.specs.First.{IsBreach, key, IsFirst}
use Rattle.audit.specs.First.IsBreach.{no_kind, stray, no_face, no_law}
use Rattle.audit.proofs.Scans.{scan_each}
use Rattle.audit.proofs.Valid.{SoundCell, passed_cell}
use Rattle.audit.proofs.Broken.{record_fails, face_fails, law_fails, record_breaks, face_breaks, law_breaks, cell_of, passed_none}
use Rattle.audit.proofs.Stops.{scan_stops, StopsIn, stops_in}
use Rattle.audit.proofs.Stops.StopsIn.{at_record, at_face, at_law}

-- The breach at which the search stops is one,
stops_is_breach : (t : List ℕ) (c : ℕ) (b : Breach) → c < cells_of t → StopsIn t c b → IsBreach t b
stops_is_breach t c b i (at_record e) = record_breaks t c i e
stops_is_breach t c b i (at_face j r h e before) = face_breaks t c j i h e
stops_is_breach t c b i (at_law j l r each h k e before last) = law_breaks t c j l i each h k e

-- and none has a lower key: not in an earlier cell, and not in its own.
module _ (t : List ℕ) (c : ℕ) (clean : (k : ℕ) → k < c → SoundCell t k) where
  earlier_cell : (b' : Breach) → IsBreach t b' → cell_of b' < c → ⊥
  earlier_cell b' h l = passed_none t b' h (clean (cell_of b') l)

  none_lower : (b b' : Breach) → StopsIn t c b → IsBreach t b' → Before (key b') (key b) → ⊥
  none_lower b (Record d) (at_record e) h (inl l) = earlier_cell (Record d) h l
  none_lower b (Record d) (at_record e) h (inr (q, inl l)) = omega arith
  none_lower b (Record d) (at_record e) h (inr (q, inr (w, n))) = n
  none_lower b (Face d i) (at_record e) h (inl l) = earlier_cell (Face d i) h l
  none_lower b (Face d i) (at_record e) h (inr (q, inl l)) = omega arith
  none_lower b (Face d i) (at_record e) h (inr (q, inr (w, n))) = omega arith
  none_lower b (Law d i k) (at_record e) h (inl l) = earlier_cell (Law d i k) h l
  none_lower b (Law d i k) (at_record e) h (inr (q, inl l)) = omega arith
  none_lower b (Law d i k) (at_record e) h (inr (q, inr (w, n))) = omega arith
  none_lower b (Record d) (at_face j r u e before) h (inl l) = earlier_cell (Record d) h l
  none_lower b (Record d) (at_face j r u e before) h (inr (q, n)) = record_fails t d h (rw q r)
  none_lower b (Face d i) (at_face j r u e before) h (inl l) = earlier_cell (Face d i) h l
  none_lower b (Face d i) (at_face j r u e before) h (inr (q, inl l)) = omega arith
  none_lower b (Face d i) (at_face j r u e before) h (inr (q, inr (w, inl l))) = face_fails t d i h (rw q (before i l))
  none_lower b (Face d i) (at_face j r u e before) h (inr (q, inr (w, inr (x, n)))) = n
  none_lower b (Law d i k) (at_face j r u e before) h (inl l) = earlier_cell (Law d i k) h l
  none_lower b (Law d i k) (at_face j r u e before) h (inr (q, inl l)) = omega arith
  none_lower b (Law d i k) (at_face j r u e before) h (inr (q, inr (w, n))) = omega arith
  none_lower b (Record d) (at_law j l r each u k e before last) h (inl m) = earlier_cell (Record d) h m
  none_lower b (Record d) (at_law j l r each u k e before last) h (inr (q, n)) = record_fails t d h (rw q r)
  none_lower b (Face d i) (at_law j l r each u k e before last) h (inl m) = earlier_cell (Face d i) h m
  none_lower b (Face d i) (at_law j l r each u k e before last) (no_face v w x) (inr (q, n)) =
      face_fails t d i (no_face v w x) (rw q (each i (rw (sym q) w)))
  none_lower b (Law d i m) (at_law j l r each u k e before last) h (inl x) = earlier_cell (Law d i m) h x
  none_lower b (Law d i m) (at_law j l r each u k e before last) h (inr (q, inl x)) = omega arith
  none_lower b (Law d i m) (at_law j l r each u k e before last) (no_law v a y z f g n) (inr (q, inr (w, inl x))) =
      law_fails t d i m (no_law v a y z f g n) (rw q (before i m x y))
  none_lower b (Law d i m) (at_law j l r each u k e before last) h (inr (q, inr (w, inr (x, inl y)))) =
      law_fails t d i m h (rw (q, x) (last m y))
  none_lower b (Law d i m) (at_law j l r each u k e before last) h (inr (q, inr (w, inr (x, inr (y, n))))) = n

found_is_first : (t : List ℕ) (b : Breach) → first_breach t ≡ Some b → IsFirst t b
unfolding first_breach
found_is_first t b e =
    let s = scan_stops (cell_breach t) (cells_of t) b e in
    let c = s.number in
    let at = stops_in t c b s.found in
    record {
      breach = stops_is_breach t c b s.below at;
      first = λ b'. none_lower t c (λ k l. passed_cell t k (s.earlier k l)) b b' at;
    }

-- two keys are the same only for the same breach
key_tells : (b b' : Breach) → key b ≡ key b' → b ≡ b'
key_tells (Record c) (Record d) e = cc
key_tells (Face c j) (Face d i) e = cc
key_tells (Law c j l) (Law d i k) e = cc
key_tells (Record c) (Face d i) e = let z : ◌≡◌ {A = ℕ} 1 2 = cc in absurd (omega arith)
key_tells (Record c) (Law d i k) e = let z : ◌≡◌ {A = ℕ} 1 3 = cc in absurd (omega arith)
key_tells (Face c j) (Record d) e = let z : ◌≡◌ {A = ℕ} 2 1 = cc in absurd (omega arith)
key_tells (Face c j) (Law d i k) e = let z : ◌≡◌ {A = ℕ} 2 3 = cc in absurd (omega arith)
key_tells (Law c j l) (Record d) e = let z : ◌≡◌ {A = ℕ} 3 1 = cc in absurd (omega arith)
key_tells (Law c j l) (Face d i) e = let z : ◌≡◌ {A = ℕ} 3 2 = cc in absurd (omega arith)

pub one_first : (t : List ℕ) (b b' : Breach) → IsFirst t b → IsFirst t b' → b ≡ b'
one_first t b b' f g =
    ⊎_elim (λ h. absurd (g.first b f.breach h))
    (λ h. ⊎_elim (key_tells b b') (λ k. absurd (f.first b' g.breach k)) h)
    (before_same_after (key b) (key b'))

breach_inside : (t : List ℕ) (b : Breach) → IsBreach t b → cell_of b < cells_of t
breach_inside t b (no_kind i h k) = i
breach_inside t b (stray i s) = i
breach_inside t b (no_face v h k) = v.inside
breach_inside t b (no_law v h k m i i' n) = v.inside

pub none_where_sound : (t : List ℕ) (b : Breach) → first_breach t ≡ None → IsBreach t b → ⊥
unfolding first_breach
none_where_sound t b e h =
    passed_none t b h (passed_cell t (cell_of b) (scan_each (cell_breach t) (cells_of t) e (cell_of b) (breach_inside t b h)))

first_is_found : (t : List ℕ) (b : Breach) → IsFirst t b → first_breach t ≡ Some b
first_is_found t b f = go (first_breach t) refl
  where
    go : (x : Option Breach) → first_breach t ≡ x → first_breach t ≡ Some b
    go None e = absurd (none_where_sound t b e f.breach)
    go (Some a) e = e ∙ ap Some (one_first t a b (found_is_first t a e) f)

pub found_iff_first : (t : List ℕ) (b : Breach) → (first_breach t ≡ Some b) ↔ IsFirst t b
found_iff_first t b = (found_is_first t b, first_is_found t b)

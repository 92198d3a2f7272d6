-- The face places of one cell, added one by one into a set: what the set is after the first j of them.
-- What carries it: one toggle adds one term of the parity by which a face counts. Assumes nothing.
use mathlib.Core.Path.{◌≡◌, sym, ap, ap₂, ◌∙◌}
use mathlib.Core.Bool.{Bool, true, ◌&&◌}
use mathlib.Core.List.{List}
use Prim.Native.Nat.{ℕ, ◌+◌, ◌/◌, ◌<◌}
use native.Mathlib.Numerals.{add-one}
use native.Mathlib.Omega.{arith}
use lib.Dec.{eqb}
use lib.ListN.{length}
use Rattle.homology.specs.Cells.{odd, ◌⊻◌}
use Rattle.homology.proofs.Marks.{⊻-off, ⊻-assoc}
use Rattle.bitset.specs.Bits.{bits, member, toggled, full_width}
use Rattle.complex.specs.View.{View, Frame, viewed, odd_face}
use Rattle.rows.specs.Rows.{FacesAdded}
use Rattle.rows.proofs.Members.{member_toggled}

-- ws' is ws after the first j face places of cell c
pub record PlacesAdded (v : View) (c j : ℕ) (ws ws' : List ℕ) : Type 0 where
  pub same : (s : ℕ) → member ws' s ≡ member ws s ⊻ odd j (λ l. eqb (v.face c l) s)

module _ (v : View) (c : ℕ) where
  -- a face has its word in a set of the largest table's width
  pub face_fits : Frame v → (j f : ℕ) → v.live c ≡ true → j < v.places c → f ≡ v.face c j → f / bits < full_width
  face_fits frame j f living l e = omega (arith, frame.inside c j living l, frame.room)

  pub no_places : (ws : List ℕ) → PlacesAdded v c 0 ws ws
  unfolding odd
  no_places ws = record { same = λ s. sym (⊻-off (member ws s)) }

  pub one_place : (j f : ℕ) (ws ws' ws'' : List ℕ) → f ≡ v.face c j → f / bits < length ws' → ws'' ≡ toggled ws' f → PlacesAdded v c j ws ws' → PlacesAdded v c (j + 1) ws ws''
  unfolding odd
  one_place j f ws ws' ws'' e h g p = record {
    same = λ s.
        ap (λ (l : List ℕ). member l s) g
        ∙ member_toggled ws' f h s
        ∙ ap₂ (λ (a b : Bool). a ⊻ b) (p.same s) (ap (λ (u : ℕ). eqb u s) e)
        ∙ ⊻-assoc (member ws s) (odd j (λ l. eqb (v.face c l) s)) (eqb (v.face c j) s)
        ∙ ap (λ (i : ℕ). member ws s ⊻ odd i (λ l. eqb (v.face c l) s)) (sym (add-one j));
  }

  pub all_places : (j : ℕ) (ws ws' : List ℕ) → v.live c ≡ true → j ≡ v.places c → length ws' ≡ length ws → PlacesAdded v c j ws ws' → FacesAdded (viewed v) c ws ws'
  unfolding odd_face
  all_places j ws ws' living e long p = record {
    long = long;
    same = λ s. p.same s
        ∙ ap (λ (i : ℕ). member ws s ⊻ odd i (λ l. eqb (v.face c l) s)) e
        ∙ ap (λ (b : Bool). member ws s ⊻ (b && odd (v.places c) (λ l. eqb (v.face c l) s))) (sym living);
  }

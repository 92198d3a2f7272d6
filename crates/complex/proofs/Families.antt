-- A valid table is a semi-simplicial set.
-- What carries it: a cell of a table is its number, since what is known of the number is a proposition; so the law between
-- numbers is the law between cells. Assumes nothing.
use mathlib.Core.Path.{◌≡◌, refl, sym, ap, ◌∙◌, subst, transport_refl}
use mathlib.Core.List.{List}
use mathlib.Core.HLevel.{is_prop→PathP}
use Prim.Native.Nat.{ℕ, suc, ◌-◌, ◌≤◌, ◌<◌}
use native.Mathlib.Nat.{ℕ_set}
use native.Mathlib.Bridge.{le_prop}
use native.Mathlib.Omega.{arith}
use Rattle.table.specs.Kind.{top, used}
use Rattle.table.specs.Table.{Live, Valid, dim, face}
use Rattle.complex.specs.SemiSimplicial.{SemiSimplicial, CellOf, OfTable}
use Rattle.complex.proofs.Living.{places, face_level}

live_prop : (t : List ℕ) (c : ℕ) → IsProp (Live t c)
live_prop t c x y = λ i. record { inside = le_prop x.inside y.inside i; low = le_prop x.low y.low i }

-- two cells of a table with one number are one cell
same_cell : (t : List ℕ) (p : ℕ) (a b : CellOf t p) → a.number ≡ b.number → a ≡ b
same_cell t p a b e = λ i.
    record {
      number = e i;
      living = is_prop→PathP (λ k. Live t (e k)) (λ k. live_prop t (e k)) a.living b.living i;
      level = is_prop→PathP (λ k. dim t (e k) ≡ p) (λ k. ℕ_set (dim t (e k)) p) a.level b.level i;
    }

-- places up to the dimension are used
fits : (t : List ℕ) (p j : ℕ) → j ≤ suc p → (s : CellOf t (suc p)) → j < used (dim t s.number)
fits t p j h s =
    let low : suc p ≤ top = subst (λ (q : ℕ). q ≤ top) s.level s.living.low in
    let u : j < used (suc p) = omega (arith, places p low) in
    subst (λ (q : ℕ). j < used q) (sym s.level) u

module _ (t : List ℕ) (v : Valid t) where
  down : (p j : ℕ) → j ≤ suc p → CellOf t (suc p) → CellOf t p
  down p j h s =
      record {
        number = face t s.number j;
        living = v.face_live s.number j s.living (fits t p j h s);
        level = face_level t v s.number j p s.living s.level (fits t p j h s);
      }

  faces_agree : (p j l : ℕ) (hl : l < j) (hj : j ≤ suc (suc p)) (l-fits : l ≤ suc p) (l-over : l ≤ suc (suc p)) (j-down : j - 1 ≤ suc p) (s : CellOf t (suc (suc p))) → down p l l-fits (down (suc p) j hj s) ≡ down p (j - 1) j-down (down (suc p) l l-over s)
  unfolding down
  faces_agree p j l hl hj l-fits l-over j-down s =
      same_cell t p (down p l l-fits (down (suc p) j hj s)) (down p (j - 1) j-down (down (suc p) l l-over s))
      (v.law s.number j l s.living (omega (arith, s.level)) hl (omega (arith, s.level)))

  semi_simplicial : SemiSimplicial
  semi_simplicial = record { K = CellOf t; d = down; law = faces_agree }

  of_table : OfTable t semi_simplicial
  unfolding semi_simplicial down
  of_table =
      record {
        families = λ p. refl;
        faces = λ p j h s.
            ap (λ (x : CellOf t p). x.number) (transport_refl (down p j h s))
            ∙ ap (λ (x : CellOf t (suc p)). face t x.number j) (sym (transport_refl s));
      }

pub valid_is_semi_simplicial : (t : List ℕ) → Valid t → (S : SemiSimplicial) × OfTable t S
valid_is_semi_simplicial t v = (semi_simplicial t v, of_table t v)

-- A compaction keeps every hole number, and the faces that name a cell an odd number of times. What carries it: the old cells and
-- the new are alike under the list. Assumes nothing.
use mathlib.Core.Path.{◌≡◌, refl, ap, ap₂, sym, subst, ◌∙◌}
use mathlib.Core.Bool.{Bool, ◌&&◌}
use mathlib.Core.List.{List}
use mathlib.Core.Logic.{⊎_elim, ◌↔◌}
use Prim.Native.Nat.{ℕ, zero, suc, ◌<◌}
use native.Mathlib.Omega.{arith}
use borrow.Author.Tests.{eq-eqb, ne_eqb}
use lib.Dec.{eqb}
use Rattle.table.specs.Kind.{used}
use Rattle.table.specs.Table.{dim, face, Live, Valid}
use Rattle.counting.proofs.Cases.{same_or_not}
use Rattle.table.proofs.Records.{live_true, live_says}
use Rattle.homology.specs.Cells.{odd, ◌⊻◌}
use Rattle.homology.specs.Holes.{IsHoleNumber}
use Rattle.complex.specs.Cells.{cells}
use Rattle.complex.specs.View.{view_of, odd_face}
use Rattle.complex.proofs.Boundary.{valid_is_lawful}
use Rattle.renumbering.specs.Renumbering.{CellIn, Renumbering}
use Rattle.renumbering.proofs.SameHoles.{renumbering_same_holes}
use Rattle.compaction.specs.Compaction.{IsCompaction}
use Rattle.compaction.specs.Made.{old_number}
use Rattle.compaction.proofs.Numbering.{one_number}
use Rattle.compaction.proofs.Determines.{old_of_new}
use Rattle.compaction.proofs.Kept.{live_there, live_from, compaction_valid}

-- a cell of the table is a cell of its complex
cell_in : (t : List ℕ) (c : ℕ) → Live t c → CellIn (cells t) c
cell_in t c l = record { below = l.inside; living = live_says t c l }

cell_live : (t : List ℕ) (c : ℕ) → CellIn (cells t) c → Live t c
cell_live t c i = live_true t c i.living

odd_below : (n : ℕ) (f g : ℕ → Bool) → ((j : ℕ) → j < n → f j ≡ g j) → odd n f ≡ odd n g
unfolding odd
odd_below zero f g h = refl
odd_below (suc n) f g h = ap₂ ◌⊻◌ (odd_below n f g (λ j l. h j (omega arith))) (h n (omega arith))

module _ (t : List ℕ) (ν : ℕ → ℕ) (u : List ℕ) (valid : Valid t) (x : IsCompaction t ν u) where
  same_test : (c s : ℕ) → Live t c → Live t s → eqb (ν c) (ν s) ≡ eqb c s
  same_test c s l k =
      ⊎_elim
      (λ e. eq-eqb (ν c) (ν s) (ap ν e) ∙ sym (eq-eqb c s e))
      (λ n. ne_eqb (ν c) (ν s) (λ e. n (one_number t ν x.numbering c s l k e)) ∙ sym (ne_eqb c s n))
      (same_or_not c s)

  -- every place names the same cell under the list
  pub same_place : (c s j : ℕ) → Live t c → Live t s → j < used (dim t c) → eqb (face u (ν c) j) (ν s) ≡ eqb (face t c j) s
  same_place c s j l k h =
      ap (λ z. eqb z (ν s)) (x.kept_face c j l h) ∙ same_test (face t c j) s (valid.face_live c j l h) k

  same_odd_face : (c s : ℕ) → Live t c → Live t s → odd_face (view_of u) (ν c) (ν s) ≡ odd_face (view_of t) c s
  unfolding odd_face
  same_odd_face c s l k =
      ap₂ ◌&&◌ (live_says u (ν c) (live_there t ν u valid x c l) ∙ sym (live_says t c l))
      (ap (λ p. odd (used p) (λ j. eqb (face u (ν c) j) (ν s))) (x.kept_dim c l)
      ∙ odd_below (used (dim t c)) (λ j. eqb (face u (ν c) j) (ν s)) (λ j. eqb (face t c j) s) (λ j h. same_place c s j l k h))

  old_there : (i : ℕ) → Live u i → (Live t (old_number t ν i)) × (ν (old_number t ν i) ≡ i)
  old_there i l =
      let k = live_from t ν u valid x i l in
      let e : old_number t ν i ≡ k.cell = ap (old_number t ν) (sym k.number) ∙ old_of_new t ν x.numbering k.cell k.living in
      (subst (Live t) (sym e) k.living, ap ν e ∙ k.number)

  compaction_renumbers : Renumbering (cells t) (cells u) ν (old_number t ν)
  compaction_renumbers =
      record {
        there = λ c i. cell_in u (ν c) (live_there t ν u valid x c (cell_live t c i));
        back = λ d i. cell_in t (old_number t ν d) (old_there d (cell_live u d i)).0;
        there_back = λ c i. old_of_new t ν x.numbering c (cell_live t c i);
        back_there = λ d i. (old_there d (cell_live u d i)).1;
        same_dim = λ c i. x.kept_dim c (cell_live t c i);
        same_inc = λ c s i k. same_odd_face c s (cell_live t c i) (cell_live t s k);
      }

  pub compaction_same_holes : (p b : ℕ) → IsHoleNumber (cells t) p b ↔ IsHoleNumber (cells u) p b
  compaction_same_holes =
      renumbering_same_holes (cells t) (cells u) ν (old_number t ν) compaction_renumbers
      (valid_is_lawful t valid) (valid_is_lawful u (compaction_valid t ν u valid x))

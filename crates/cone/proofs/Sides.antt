-- The faces of a cone as the code lays them out: free marks with the apex before them, the sides over these, then the cell.
-- What carries it: the cases of a place, before the cell, at it and past it. Assumes nothing.
use mathlib.Core.Path.{◌≡◌, refl, sym, ap, ◌∙◌}
use mathlib.Core.Bool.{Bool}
use mathlib.Core.Logic.{⊎_elim}
use mathlib.Core.List.{List}
use Prim.Native.Nat.{ℕ, zero, suc, ◌+◌, ◌≤◌, ◌<◌}
use native.Mathlib.Omega.{arith}
use borrow.Author.Tests.{lt-ltb, le-ltb, eq-eqb, ne_eqb, le-leb}
use lib.ListN.{length, get_or, set, replicate, get_or-replicate}
use lib.Seq.{get_or-set_same, get_or-set_other}
use lib.Dec.{ltb, eqb}
use Rattle.counting.specs.Counting.{pick}
use Rattle.table.specs.Kind.{top, faces, free_mark, used}
use Rattle.table.specs.Table.{dim}
use Rattle.counting.proofs.Cases.{below_or_not, same_or_other}
use Rattle.table.proofs.Stores.{up_to}
use Rattle.cone.specs.declared.numbers.Numbers.{Numbers}
use Rattle.cone.specs.Parts.{over_face, Coneable}

-- what lies below k lies below k + 1, and only k lies between
pub between : (x k : ℕ) → (x ≡ k → ⊥) → ltb x k ≡ ltb x (k + 1)
between x k ne =
    ⊎_elim
    (λ h. lt-ltb x k h ∙ sym (lt-ltb x (k + 1) (omega arith)))
    (λ h. le-ltb x k h ∙ sym (le-ltb x (k + 1) (omega arith)))
    (below_or_not x k)

used_suc : (p : ℕ) → suc p < top → used (suc p) ≡ suc p + 1
used_suc p low = rw (ne_eqb (suc p) 0 (λ e. omega arith), le-leb (suc p) top (omega arith))

pub used_most : (p : ℕ) → p < top → used p ≤ p + 1
used_most zero low = omega arith
used_most (suc p) low = omega (arith, used_suc p low)

-- a cell that has room for a cone has few faces, and those that were read are entries
module _ (t : List ℕ) (ns : Numbers) (s u : ℕ) (ok : Coneable t ns s) (is : u ≡ used (dim t s)) where
  pub few_sides : u ≤ faces
  few_sides = omega (arith, used_most (dim t s) ok.low, ok.low)

-- a side matters at a used place alone
pub used_side : (p s apex : ℕ) (side side' : ℕ → ℕ) (j : ℕ) → p < top → (j < used p → side j ≡ side' j) → over_face p s apex side j ≡ over_face p s apex side' j
unfolding over_face
used_side zero s apex side side' j low e = refl
used_side (suc p) s apex side side' j low e =
    ⊎_elim
    (λ h.
    ap (λ (x : ℕ). pick (eqb j (suc (suc p))) s (pick (ltb (suc (suc p)) j) free_mark (pick (eqb (suc p) 0) apex x)))
    (e (omega (arith, used_suc p low))))
    (λ h.
    same_or_other (λ k. over_face (suc p) s apex side k ≡ over_face (suc p) s apex side' k) j (suc (suc p))
    (rw (eq-eqb (suc (suc p)) (suc (suc p)) refl))
    (λ ne. rw (lt-ltb (suc (suc p)) j (omega arith))))
    (below_or_not j (suc (suc p)))

module _ (side : ℕ → ℕ) (apex : ℕ) where
  -- before the sides: the apex, and nothing after it
  abbrev alone : List ℕ
  alone = set (replicate faces free_mark) 0 apex

  -- the first j sides are laid out
  abbrev pub Sided : ℕ → List ℕ → Type 0
  Sided j r = (l : ℕ) → get_or r l 0 ≡ up_to j side (λ k. get_or alone k 0) l

  pub sided_none : Sided 0 alone
  sided_none l = sym (rw (le-ltb l 0 (omega arith)))

  pub sided_more : (r : List ℕ) (j x : ℕ) → j < length r → x ≡ side j → Sided j r → Sided (j + 1) (set r j x)
  sided_more r j x inside e so_far l =
      same_or_other (λ k. get_or (set r j x) k 0 ≡ up_to (j + 1) side (λ k. get_or alone k 0) k) l j
      (get_or-set_same r j x 0 inside ∙ e ∙ sym (rw (lt-ltb j (j + 1) (omega arith))))
      (λ ne. get_or-set_other r j l x 0 ne ∙ so_far l ∙ ap (λ (b : Bool). pick b (side l) (get_or alone l 0)) (between l j ne))

  -- a place before the cell's
  before : (p l : ℕ) → p < top → l ≤ p → up_to (used p) side (λ k. get_or alone k 0) l ≡ pick (eqb p 0) apex (side l)
  before zero l low h = let e : l ≡ 0 = omega arith in rw e
  before (suc p) l low h =
      rw (lt-ltb l (used (suc p)) (omega (arith, used_suc p low)), ne_eqb (suc p) 0 (λ e. omega arith))

  pub sided_done : (p s : ℕ) (r : List ℕ) → p < top → length r ≡ faces → Sided (used p) r → (l : ℕ) → l < faces → get_or (set r (p + 1) s) l 0 ≡ over_face p s apex side l
  unfolding over_face
  sided_done p s r low size so_far l h =
      same_or_other (λ k. get_or (set r (p + 1) s) k 0 ≡ over_face p s apex side k) l (p + 1)
      (get_or-set_same r (p + 1) s 0 (omega arith) ∙ sym (rw (eq-eqb (p + 1) (suc p) (omega arith))))
      (λ ne.
      get_or-set_other r (p + 1) l s 0 ne
      ∙ so_far l
      ∙ rw (ne_eqb l (suc p) (λ e. ne (omega arith)))
      (⊎_elim
      (λ past.
      rw (le-ltb l (used p) (omega (arith, used_most p low)), lt-ltb (suc p) l past)
      (get_or-set_other (replicate faces free_mark) 0 l apex 0 (λ e. omega arith) ∙ get_or-replicate faces l free_mark 0 h))
      (λ b. rw (le-ltb (suc p) l b) (before p l low (omega (arith, ne))))
      (below_or_not (suc p) l)))

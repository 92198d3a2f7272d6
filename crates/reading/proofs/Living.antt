-- What it says of a cell that it is a live p-cell, and of the faces of one.
-- What carries it: the cases of the tests, and the lines of `Valid`. Assumes nothing.
use mathlib.Core.Path.{◌≡◌, sym, ◌∙◌}
use mathlib.Core.Bool.{true}
use mathlib.Core.List.{List}
use Prim.Native.Nat.{ℕ, suc, ◌≤◌, ◌<◌}
use native.Mathlib.Nat.{suc_inj}
use native.Mathlib.Numerals.{add-one}
use native.Mathlib.Omega.{arith}
use Rattle.table.specs.Kind.{top, used}
use Rattle.table.specs.Table.{dim, face, Live, Valid, is_cell}
use Rattle.table.proofs.Dimensions.{cell_live, cell_dim, cell_says}
use Rattle.table.proofs.Places.{used_is}

-- a live p-cell, in words of the table
pub record CellOf (t : List ℕ) (p c : ℕ) : Type 0 where
  pub alive : Live t c
  pub level : dim t c ≡ p

pub cell_true : (t : List ℕ) (p c : ℕ) → is_cell t p c ≡ true → CellOf t p c
cell_true t p c e = record { alive = cell_live t p c e; level = cell_dim t p c e }

pub cell_is : (t : List ℕ) (p c : ℕ) → CellOf t p c → is_cell t p c ≡ true
cell_is t p c h = cell_says t p c h.alive h.level

-- a dimension from 1 to the top has one place more than its number
pub places : (p : ℕ) → suc p ≤ top → used (suc p) ≡ suc (suc p)
places p h = used_is (suc p) (omega arith) h ∙ add-one (suc p)

-- a face of a cell is a cell one dimension down
pub face_cell : (t : List ℕ) → Valid t → (p c j : ℕ) → CellOf t (suc p) c → j < used (dim t c) → CellOf t p (face t c j)
face_cell t v p c j h l =
    record {
      alive = v.face_live c j h.alive l;
      level = suc_inj (sym (v.face_dim c j h.alive l) ∙ h.level);
    }

-- A live cell's dimension and its face places, as the theorems of this crate read them from a table.
-- What carries them: the cases of the tests. Assumes nothing.
use mathlib.Core.Path.{◌≡◌, sym, ◌∙◌}
use mathlib.Core.List.{List}
use Prim.Native.Nat.{ℕ, suc, ◌≤◌, ◌<◌}
use native.Mathlib.Nat.{suc_inj}
use native.Mathlib.Omega.{arith}
use borrow.Author.Tests.{ne_eqb, le-leb}
use Rattle.table.specs.Kind.{top, used}
use Rattle.table.specs.Table.{Live, Valid, dim, face}

-- a dimension from 1 to the top has one place more than its number
pub places : (p : ℕ) → suc p ≤ top → used (suc p) ≡ suc (suc p)
places p h = simp (ne_eqb (suc p) 0 (λ e. omega arith), le-leb (suc p) top h) (omega arith)

-- a face of a valid table is one dimension down
pub face_level : (t : List ℕ) → Valid t → (c j p : ℕ) → Live t c → dim t c ≡ suc p → j < used (dim t c) → dim t (face t c j) ≡ p
face_level t v c j p a e h = suc_inj (sym (v.face_dim c j a h) ∙ e)

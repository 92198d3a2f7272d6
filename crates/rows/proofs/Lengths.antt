-- The test of the lengths, way by way out of the code. What carries it: a table has at most 512 cells, so that the product of the two
-- numbers is small. Assumes nothing.
use mathlib.Core.Path.{◌≡◌, sym, ap, ◌∙◌}
use mathlib.Core.Bool.{Bool, true, false, ◌&&◌}
use mathlib.Core.List.{List}
use Prim.Native.Nat.{ℕ, ◌*◌, ◌≤◌}
use native.Mathlib.Nat.{mul-le-mul_right}
use native.Mathlib.Omega.{arith}
use borrow.Author.Tests.{eqb-true}
use lib.Dec.{eqb}
use lib.ListN.{length}
use Rattle.counting.proofs.Cases.{and_right}
use Rattle.bitset.specs.Bits.{words_for, full_width}
use Rattle.table.specs.Kind.{capacity}
use Rattle.table.specs.Table.{cells_of, sized}
use Rattle.table.proofs.Sizes.{sized_is_sized}
use Rattle.complex.specs.Cells.{cells}
use Rattle.rows.specs.Rows.{evidence_words}
use Rattle.rows.specs.Lengths.{evidence_fits, lengths_fit}

pub no_table_fits : (t ev : List ℕ) → sized t ≡ false → false ≡ lengths_fit t ev
no_table_fits t ev e = sym (ap (λ (b : Bool). b && evidence_fits t ev) e)

pub table_fits : (t ev : List ℕ) (n w : ℕ) → sized t ≡ true → n ≡ cells_of t → w ≡ words_for n → eqb (length ev) (n * w) ≡ lengths_fit t ev
table_fits t ev n w on same g =
    ap (λ (k : ℕ). eqb (length ev) (n * k)) g
    ∙ ap (λ (k : ℕ). eqb (length ev) (k * words_for k)) same
    ∙ sym (ap (λ (b : Bool). b && evidence_fits t ev) on)

pub product_small : (t : List ℕ) (n w : ℕ) → sized t ≡ true → n ≡ cells_of t → w ≡ words_for n → n * w ≤ capacity * full_width
product_small t n w on same g =
    let low : n ≤ capacity = omega (arith, (sized_is_sized t on).room) in
    omega (arith, mul-le-mul_right w low)

-- what the test says of the evidence
pub fitting_length : (t ev : List ℕ) → lengths_fit t ev ≡ true → length ev ≡ evidence_words (cells t)
fitting_length t ev e = eqb-true (length ev) (evidence_words (cells t)) (and_right (sized t) (evidence_fits t ev) e)

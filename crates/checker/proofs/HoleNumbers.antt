-- What the checker answers where it accepts: the hole numbers of the table, and the cells of each dimension.
-- What carries it: the theorem on hole counts, for cells that are lawful since the table is valid. Assumes nothing.
use mathlib.Core.Path.{◌≡◌, sym, ap, subst, ◌∙◌}
use mathlib.Core.List.{List}
use Prim.Native.Nat.{ℕ, ◌+◌, ◌≤◌}
use native.Mathlib.Omega.{arith}
use lib.ListN.{get_or}
use Rattle.homology.specs.Holes.{IsHoleNumber}
use Rattle.homology.specs.Evidence.{cells_in, holes_in}
use Rattle.homology.proofs.HoleTheorem.{holes_are_hole_numbers}
use Rattle.table.specs.Kind.{top}
use Rattle.table.specs.Table.{Valid}
use Rattle.counting.proofs.Listed.{get_or_listed}
use Rattle.std.specs.declared.result.Result.TheVariants.{Ok}
use Prim.{tt}
use Rattle.complex.specs.Cells.{cells}
use Rattle.complex.proofs.Boundary.{valid_is_lawful}
use Rattle.rows.specs.Rows.{rows}
use Rattle.checker.specs.declared.Counts.{Counts}
use Rattle.checker.specs.Check.{check_verdict, counted, Checks}
use Rattle.checker.proofs.Accepting.{accepted_meets, accepted_rows}
use Rattle.checker.proofs.Answers.{counts_are_counted}

pub checked_holes_are_hole_numbers : (t ev : List ℕ) → Valid t → check_verdict t ev ≡ Ok tt → (p : ℕ) → IsHoleNumber (cells t) p (holes_in (cells t) (rows (cells t) ev) p)
checked_holes_are_hole_numbers t ev v e = holes_are_hole_numbers (cells t) (valid_is_lawful t v) (rows (cells t) ev) (accepted_meets t ev e)

pub accepted_holes_are_hole_numbers : (t ev : List ℕ) → check_verdict t ev ≡ Ok tt → (p : ℕ) → IsHoleNumber (cells t) p (holes_in (cells t) (rows (cells t) ev) p)
accepted_holes_are_hole_numbers t ev e = checked_holes_are_hole_numbers t ev (accepted_rows t ev e).valid e

-- what a call answers that accepts
module _ (t ev : List ℕ) (r : Counts) (h : Checks t ev (Ok r)) where
  accepted : (check_verdict t ev ≡ Ok tt) × (r ≡ counted (cells t) ev)
  accepted = counts_are_counted (check_verdict t ev) h

  pub answered_cells : (p : ℕ) → p ≤ top → get_or r.cells p 0 ≡ cells_in (cells t) p
  answered_cells p l = ap (λ (q : Counts). get_or q.cells p 0) accepted.1 ∙ get_or_listed (top + 1) (cells_in (cells t)) p (omega arith)

  pub answered_holes_are_hole_numbers : (p : ℕ) → p ≤ top → IsHoleNumber (cells t) p (get_or r.holes p 0)
  answered_holes_are_hole_numbers p l =
      let holes : ℕ → ℕ = holes_in (cells t) (rows (cells t) ev) in
      subst (IsHoleNumber (cells t) p) (sym (ap (λ (q : Counts). get_or q.holes p 0) accepted.1 ∙ get_or_listed (top + 1) holes p (omega arith)))
      (accepted_holes_are_hole_numbers t ev accepted.0 p)

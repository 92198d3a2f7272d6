-- Where the exported checker answers 0, the numbers in the lent array are hole numbers as demand 3 says it, for dimension 0 to 6.
-- What carries it: the answer 0 is acceptance, and the checker's numbers are hole numbers. Assumes nothing.
use mathlib.Core.Path.{◌≡◌, refl, sym, ap, subst, ◌∙◌}
use mathlib.Core.List.{List}
use Prim.Native.Nat.{ℕ, ◌≤◌}
use native.Mathlib.Omega.{arith}
use lib.ListN.{get_or}
use Rattle.calls.specs.Calls.{Verdict}
use Rattle.std.specs.declared.result.Result.TheVariants.{Ok, Err}
use Prim.{tt}
use Rattle.calls.proofs.Word.{word_above_zero}
use Rattle.homology.specs.Holes.{IsHoleNumber}
use Rattle.homology.specs.Evidence.{holes_in}
use Rattle.table.specs.Kind.{top, dimensions}
use Rattle.counting.specs.Counting.{listed}
use Rattle.counting.proofs.Listed.{get_or_listed}
use Rattle.complex.specs.Cells.{cells}
use Rattle.rows.specs.Rows.{rows}
use Rattle.checker.specs.Check.{check_verdict}
use Rattle.checker.proofs.HoleNumbers.{accepted_holes_are_hole_numbers}
use Rattle.kernel.specs.Face.{code, seven_after}
use Rattle.kernel.specs.Calls.{CheckEnds}

-- 0 is the code of acceptance alone
zero_accepts : (v : Verdict) → code v ≡ 0 → v ≡ Ok tt
zero_accepts (Ok tt) e = refl
zero_accepts (Err r) e = absurd (omega (arith, word_above_zero r))

pub check_means : (t ev c₀ h₀ c h : List ℕ) → CheckEnds t ev c₀ h₀ 0 c h → (p : ℕ) → p ≤ top → IsHoleNumber (cells t) p (get_or h p 0)
check_means t ev c₀ h₀ c h ends p low =
    let e : check_verdict t ev ≡ Ok tt = zero_accepts (check_verdict t ev) (sym ends.answer) in
    let told : h ≡ listed dimensions (holes_in (cells t) (rows (cells t) ev)) = ends.holes_told ∙ ap (λ (v : Verdict). seven_after v (listed dimensions (holes_in (cells t) (rows (cells t) ev))) h₀) e in
    subst (IsHoleNumber (cells t) p)
    (sym (ap (λ (l : List ℕ). get_or l p 0) told ∙ get_or_listed dimensions (holes_in (cells t) (rows (cells t) ev)) p (omega arith)))
    (accepted_holes_are_hole_numbers t ev e p)

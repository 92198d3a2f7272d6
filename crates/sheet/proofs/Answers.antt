-- What the sheet test answers: yes exactly for a valid table that is a sheet, no for an empty one, yes for one of points.
-- What carries it: a valid table passes both grounds, and then the test decides. Assumes nothing.
use mathlib.Core.Path.{◌≡◌, refl, sym, ap, ◌∙◌}
use mathlib.Core.Bool.{Bool, true, false}
use mathlib.Core.List.{List}
use mathlib.Core.Logic.{◌↔◌}
use Prim.Native.Nat.{ℕ}
use native.Mathlib.Omega.{arith}
use lib.ListN.{length}
use Rattle.table.specs.Kind.{free_mark}
use Rattle.table.proofs.Words.{one_dim}
use Rattle.table.specs.Table.{dim, Sized, Live, Valid}
use Rattle.audit.specs.Audit.{audit_grounds}
use Rattle.calls.specs.Calls.{verdict, on_verdict}
use Rattle.calls.specs.Calls.{Verdict}
use Rattle.std.specs.declared.result.Result.TheVariants.{Ok, Err}
use Prim.{tt}
use Rattle.audit.specs.Empty.{emptied}
use Rattle.audit.proofs.Valid.{audit_accepts_iff_valid}
use Rattle.audit.proofs.Empties.{emptied_is_valid}
use Rattle.sheet.specs.Sheet.{IsSheet, is_sheet, sheet_answer}
use Rattle.sheet.proofs.Sheets.{sheet_yes_iff, no_cells_no, points_yes}

-- where the audit accepts, the test decides
accepted_answer : (t : List ℕ) (b : Bool) → verdict (audit_grounds t) ≡ Ok tt → is_sheet t ≡ b → Ok b ≡ sheet_answer t
accepted_answer t b a e = sym (ap (λ v. on_verdict v (Ok (is_sheet t)) Err) a ∙ ap Ok e)

yes_cases : (v : Verdict) (b : Bool) → on_verdict v (Ok b) Err ≡ Ok true → (v ≡ Ok tt) × (b ≡ true)
yes_cases (Ok tt) b e = (refl, cc)
yes_cases (Err r) b e = let z : ◌≡◌ {A = ℕ} 0 1 = cc in absurd (omega arith)

pub says_yes_iff : (t : List ℕ) → (sheet_answer t ≡ Ok true) ↔ ((Valid t) × ((n : ℕ) × IsSheet t n))
says_yes_iff t = (
  λ e.
      let k = yes_cases (verdict (audit_grounds t)) (is_sheet t) e in
      let v = (audit_accepts_iff_valid t).0 k.0 in
      (v, (sheet_yes_iff t v).0 k.1),
  λ w. sym (accepted_answer t true ((audit_accepts_iff_valid t).1 w.0) ((sheet_yes_iff t w.0).1 w.1)),
)

-- an empty table says no
emptied_bare : (t : List ℕ) (c : ℕ) → Live (emptied t) c → ⊥
unfolding emptied
emptied_bare t c v = omega (arith, one_dim (length t) free_mark c v.inside, v.low)

pub empty_says_no : (t : List ℕ) → Sized t → sheet_answer (emptied t) ≡ Ok false
empty_says_no t s =
    sym (accepted_answer (emptied t) false ((audit_accepts_iff_valid (emptied t)).1 (emptied_is_valid t s)) (no_cells_no (emptied t) (emptied_bare t)))

-- and points alone say yes
pub points_say_yes : (t : List ℕ) → Valid t → (c : ℕ) → Live t c → ((s : ℕ) → Live t s → dim t s ≡ 0) → sheet_answer t ≡ Ok true
points_say_yes t v c a points =
    sym (accepted_answer t true ((audit_accepts_iff_valid t).1 v) (points_yes t v c a points))

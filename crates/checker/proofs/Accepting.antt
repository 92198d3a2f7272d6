-- The checker accepts exactly the evidence that meets rules A and B, and otherwise names the first row at fault.
-- What carries it: past the first two grounds the verdict is that of the rows, and their tests are the rules. Assumes nothing.
use mathlib.Core.Path.{◌≡◌, refl, sym, subst, ◌∙◌}
use mathlib.Core.Bool.{Bool, true, false, not}
use mathlib.Core.List.{List}
use mathlib.Core.Logic.Iff
use mathlib.Core.Logic.{◌↔◌}
use Prim.Native.Nat.{ℕ}
use native.Mathlib.Omega.{arith}
use borrow.Author.Tests.{eq-eqb}
use lib.Dec.{eqb}
use lib.ListN.{length}
use Rattle.counting.proofs.Cases.{and_both, and_left}
use Rattle.homology.specs.Evidence.{Meets}
use Rattle.homology.proofs.Marks.{by_mark}
use Rattle.counting.specs.Counting.{pick}
use Rattle.table.specs.Table.{Valid, sized}
use Rattle.audit.specs.Audit.{sound, invalid, audit_grounds}
use Rattle.calls.specs.Calls.{verdict}
use Rattle.calls.specs.declared.Refusal.{Refusal}
use Rattle.calls.specs.declared.Refusal.TheVariants as refusals
use Rattle.calls.specs.Calls.{Verdict}
use Rattle.std.specs.declared.result.Result.TheVariants.{Ok, Err}
use Prim.{tt}
use Rattle.audit.proofs.Valid.{sound_is_valid, valid_is_sound, valid_is_sized, audit_accepts_iff_valid}
use Rattle.complex.specs.Cells.{cells}
use Rattle.complex.proofs.Boundary.{valid_is_lawful}
use Rattle.rows.specs.Rows.{evidence_words, rows}
use Rattle.rows.specs.Lengths.{lengths_fit}
use Rattle.rows.proofs.Lengths.{fitting_length}
use Rattle.std.specs.Prelude.{Result}
use Rattle.checker.specs.declared.Counts.{Counts}
use Rattle.checker.specs.Check.{all_rows, check_verdict, Answered, Checks}
use Rattle.checker.specs.Fault.{FirstBreaksA, FirstBreaksB}
use Rattle.checker.proofs.Faults.{Fault, fault_named, named_fault}
use Rattle.checker.proofs.Meeting.{rows_accepted_iff_rules, fault_a, fault_b}

lengths_fit_lem : (t ev : List ℕ) → Valid t → length ev ≡ evidence_words (cells t) → lengths_fit t ev ≡ true
lengths_fit_lem t ev v long = and_both _ _ (valid_is_sized t v) (eq-eqb (length ev) (evidence_words (cells t)) long)

pub refused_length : (t ev : List ℕ) → lengths_fit t ev ≡ false → check_verdict t ev ≡ Err refusals.Length
unfolding check_verdict
refused_length t ev e = rw e

refused_invalid : (t ev : List ℕ) → lengths_fit t ev ≡ true → sound t ≡ false → check_verdict t ev ≡ Err (invalid t)
unfolding check_verdict
refused_invalid t ev e f = rw (e, f)

-- where the lengths fit, what the audit refuses is refused
pub audit_refuses : (t ev : List ℕ) (r : Refusal) → lengths_fit t ev ≡ true → Err r ≡ verdict (audit_grounds t) → Err r ≡ check_verdict t ev
audit_refuses t ev r f e =
    let on : sized t ≡ true = and_left (sized t) (eqb (length ev) (evidence_words (cells t))) f in
    by_mark (sound t)
    (λ s. let accepted : verdict (audit_grounds t) ≡ Ok tt = (audit_accepts_iff_valid t).1 (sound_is_valid t on s) in
    let z : ◌≡◌ {A = ℕ} 0 1 = cc in absurd (omega arith))
    (λ s. e ∙ rw (on, s) (sym (refused_invalid t ev f s)))

-- past these two grounds the rows decide
rows_decide : (t ev : List ℕ) → Valid t → length ev ≡ evidence_words (cells t) → check_verdict t ev ≡ verdict (all_rows (cells t) ev)
unfolding check_verdict
rows_decide t ev v long = rw (lengths_fit_lem t ev v long, valid_is_sound t v)

pub rows_answer : (t ev : List ℕ) (r : Result Counts Refusal) → Valid t → length ev ≡ evidence_words (cells t) → Answered (cells t) ev (verdict (all_rows (cells t) ev)) r → Checks t ev r
rows_answer t ev r v long h = subst (λ (d : Verdict). Answered (cells t) ev d r) (sym (rows_decide t ev v long)) h

-- What an accepted verdict says: the table is valid, the evidence has its length, and the rows are accepted.
pub record RowsAccepted (t ev : List ℕ) : Type 0 where
  pub valid : Valid t
  pub long : length ev ≡ evidence_words (cells t)
  pub by_rows : verdict (all_rows (cells t) ev) ≡ Ok tt

past_grounds : (t ev : List ℕ) (a b : Bool) → lengths_fit t ev ≡ a → sound t ≡ b → pick (not a) (Err refusals.Length) (pick (not b) (Err (invalid t)) (verdict (all_rows (cells t) ev))) ≡ Ok tt → RowsAccepted t ev
past_grounds t ev true true f s e =
    let fit = and_left (sized t) (eqb (length ev) (evidence_words (cells t))) f in
    record {
      valid = sound_is_valid t fit s;
      long = fitting_length t ev f;
      by_rows = e;
    }
past_grounds t ev true false f s e = let z : ◌≡◌ {A = ℕ} 0 1 = cc in absurd (omega arith)
past_grounds t ev false b f s e = let z : ◌≡◌ {A = ℕ} 0 1 = cc in absurd (omega arith)

pub accepted_rows : (t ev : List ℕ) → check_verdict t ev ≡ Ok tt → RowsAccepted t ev
unfolding check_verdict
accepted_rows t ev e = past_grounds t ev (lengths_fit t ev) (sound t) refl refl e

pub accepted_meets : (t ev : List ℕ) → check_verdict t ev ≡ Ok tt → Meets (cells t) (rows (cells t) ev)
accepted_meets t ev e =
    let d = accepted_rows t ev e in
    (rows_accepted_iff_rules (cells t) ev (valid_is_lawful t d.valid) d.long).0 d.by_rows

pub checker_accepts_iff_rules : (t ev : List ℕ) → Valid t → length ev ≡ evidence_words (cells t) → (check_verdict t ev ≡ Ok tt) ↔ Meets (cells t) (rows (cells t) ev)
checker_accepts_iff_rules t ev v long = (
  accepted_meets t ev,
  λ m. rows_decide t ev v long ∙ (rows_accepted_iff_rules (cells t) ev (valid_is_lawful t v) long).1 m,
)

-- a row is named exactly where it is the first at fault
pub first_fault_named : (t ev : List ℕ) → Valid t → length ev ≡ evidence_words (cells t) → (c : ℕ) → ((check_verdict t ev ≡ Err (refusals.RuleA c)) ↔ FirstBreaksA (cells t) ev c) × ((check_verdict t ev ≡ Err (refusals.RuleB c)) ↔ FirstBreaksB (cells t) ev c)
first_fault_named t ev v long c = (
  Iff.trans (named (refusals.RuleA c)) (fault_a (cells t) ev (valid_is_lawful t v) long c),
  Iff.trans (named (refusals.RuleB c)) (fault_b (cells t) ev (valid_is_lawful t v) long c),
)
  where
    named : (r : Refusal) → (check_verdict t ev ≡ Err r) ↔ Fault (cells t) ev (cells t).size r
    named r =
        let d = rows_decide t ev v long in
        (λ e. named_fault (cells t) ev (cells t).size r (sym d ∙ e), λ f. d ∙ sym (fault_named (cells t) ev f))

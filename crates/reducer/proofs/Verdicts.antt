-- What the reducer answers, way by way out of the code; that it refuses nothing but a wrong length and a table that is not valid; and
-- what acceptance says of its input.
-- What carries it: the cases of the two grounds. Assumes nothing.
use mathlib.Core.Path.{◌≡◌, refl, sym, ap}
use mathlib.Core.Bool.{true, false, not}
use mathlib.Core.List.{List}
use Prim.{tt}
use Prim.Native.Nat.{ℕ}
use native.Mathlib.Omega.{arith}
use borrow.Author.Tests.{eq-eqb, not-false}
use lib.ListN.{length}
use Rattle.counting.proofs.Cases.{and_both, and_left, and_right}
use Rattle.table.specs.Table.{Valid, sized}
use Rattle.calls.specs.Calls.{verdict}
use Rattle.calls.specs.declared.Refusal.{Refusal}
use Rattle.calls.specs.declared.Refusal.TheVariants.{Length}
use Rattle.std.specs.declared.result.Result.TheVariants.{Ok, Err}
use Prim.{tt}
use Rattle.calls.proofs.Grounds.{accepted_none_applies, none_applies_accepted}
use Rattle.audit.specs.Audit.{sound, audit_grounds}
use Rattle.audit.proofs.Valid.{sound_is_valid, valid_is_sound, valid_is_sized}
use Rattle.complex.specs.Cells.{cells}
use Rattle.rows.specs.Rows.{evidence_words}
use Rattle.rows.specs.Lengths.{evidence_fits, lengths_fit}
use Rattle.rows.proofs.Lengths.{fitting_length}
use Rattle.reducer.specs.Reduce.{reduce_grounds, reduce_verdict, Reduces, Reduction}

module _ (t ev : List ℕ) where
  pub refuses_length : lengths_fit t ev ≡ false → Err Length ≡ reduce_verdict t ev
  unfolding reduce_verdict
  refuses_length e = simp e

  pub as_audited : lengths_fit t ev ≡ true → verdict (audit_grounds t) ≡ reduce_verdict t ev
  unfolding reduce_verdict
  as_audited e = simp (and_left (sized t) (evidence_fits t ev) e, and_right (sized t) (evidence_fits t ev) e)

  -- a valid table, with evidence of the length for it, is accepted
  pub reducer_accepts : Valid t → length ev ≡ evidence_words (cells t) → reduce_verdict t ev ≡ Ok tt
  unfolding reduce_verdict
  reducer_accepts v e = none_applies_accepted (reduce_grounds t ev)
      (ap not (and_both (sized t) (evidence_fits t ev) (valid_is_sized t v) (eq-eqb (length ev) (evidence_words (cells t)) e)), (ap not (valid_is_sound t v), tt))

  -- acceptance
  module _ (yes : reduce_verdict t ev ≡ Ok tt) where
    both_on : (lengths_fit t ev ≡ true) × (sound t ≡ true)
    unfolding reduce_verdict
    both_on =
        let none = accepted_none_applies (reduce_grounds t ev) yes in
        (not-false (lengths_fit t ev) none.0, not-false (sound t) none.1.0)

    pub accepted_valid : Valid t
    accepted_valid = sound_is_valid t (and_left (sized t) (evidence_fits t ev) both_on.0) both_on.1

    pub accepted_long : length ev ≡ evidence_words (cells t)
    accepted_long = fitting_length t ev both_on.0

    pub accepted_ends : (a₀ ev' a : List ℕ) → Reduction (cells t) ev' a → Reduces t ev a₀ (Ok tt) ev' a
    accepted_ends a₀ ev' a done = record {
      answer = sym yes;
      refused_left = λ x h. let z : ◌≡◌ {A = ℕ} 0 1 = cc in absurd (omega arith);
      accepted = λ h. done;
    }

  pub refused_ends : (x : Refusal) (a : List ℕ) → reduce_verdict t ev ≡ Err x → Reduces t ev a (Err x) ev a
  refused_ends x a why = record {
    answer = sym why;
    refused_left = λ y h. (refl, refl);
    accepted = λ h. let z : ◌≡◌ {A = ℕ} 0 1 = cc in absurd (omega arith);
  }

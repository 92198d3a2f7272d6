-- From what a call ensures to what its C function ensures: the answer's code, and the value on acceptance alone.
-- What carries each: the answer is the definition's, so its code and its value are too. Assumes nothing.
use mathlib.Core.Path.{◌≡◌, refl, sym, ap, ◌∙◌}
use mathlib.Core.Bool.{Bool, true, false}
use mathlib.Core.List.{List}
use Prim.Native.Nat.{ℕ}
use mir.Val.{bool_byte}
use Rattle.homology.specs.Evidence.{cells_in, holes_in}
use Rattle.calls.specs.Calls.{Ends}
use Rattle.counting.specs.Counting.{listed}
use Rattle.calls.specs.Packed.{packed_of}
use Rattle.calls.specs.declared.Refusal.{Refusal}
use Rattle.calls.specs.Calls.{Verdict}
use Rattle.std.specs.declared.result.Result.TheVariants.{Ok, Err}
use Prim.{tt}
use Rattle.table.specs.Kind.{dimensions}
use Rattle.complex.specs.Cells.{cells}
use Rattle.rows.specs.Rows.{rows}
use Rattle.checker.specs.Check.{check_verdict, counted, Checks}
use Rattle.checker.specs.declared.Counts.{Counts}
use Rattle.checker.proofs.Answers.{counts_are_counted, refusal_is_refused}
use Rattle.compaction.specs.Call.{Compacts}
use Rattle.reducer.specs.Reduce.{Reduces}
use Rattle.std.specs.declared.result.Result.{Result}
use Rattle.kernel.specs.Face.{code, value_after, judged_value, seven_after, Fills}
use Rattle.kernel.specs.Calls.{CompactEnds, CheckEnds, ReduceEnds}

-- a verdict's code
pub coded : {B : Type 0} {v w : Verdict} {b l : B} {r : ℕ} → Ends v b w l → r ≡ code w → Ends (code v) b r l
coded e q = record { answer = q ∙ ap code e.answer; left = e.left }

-- the answer a of a call is a': its code and its value
pub told : {A B : Type 0} (value_of : Result A Refusal → B → B) (a a' : Result A Refusal) (old v : B) (r : ℕ) → a ≡ a' → r ≡ code a' → v ≡ value_of a' old → Ends (code a) (value_of a old) r v
told value_of a a' old v r e q w =
    record { answer = q ∙ sym (ap code e); left = w ∙ sym (ap (λ x. value_of x old) e) }

-- a yes or a no as a byte
pub told_byte : (b : Bool) (old : ℕ) → bool_byte b ≡ judged_value (Ok b) old
told_byte true old = refl
told_byte false old = refl

-- the same with the buffer that the call left
pub filled : (a a' : Result ℕ Refusal) (old v r : ℕ) (left l : List ℕ) → Ends a left a' l → Ends (code a') (value_after a' old) r v → Fills (code a) left (value_after a old) r l v
filled a a' old v r left l e q =
    record { answer = q.answer ∙ ap code e.answer; buffer = e.left; told = q.left ∙ ap (λ x. value_after x old) e.answer }

-- a compaction, with both its buffers
pub compact_coded : {t list t' list' : List ℕ} {v : Verdict} {r : ℕ} → Compacts t list v t' list' → r ≡ code v → CompactEnds t list r t' list'
compact_coded e q = record { answer = q ∙ ap code e.answer; table = e.table; numbers = e.numbers }

-- a reduction, with its rows and its counts
pub reduce_coded : {t ev a₀ ev' a : List ℕ} {v : Verdict} {r : ℕ} → Reduces t ev a₀ v ev' a → r ≡ code v → ReduceEnds t ev a₀ r ev' a
reduce_coded e q = record { answer = q ∙ ap code e.answer; refused_left = e.refused_left; accepted = e.accepted }

module _ (t ev : List ℕ) (cells₀ holes₀ : List ℕ) where
  pub check_accepted : (r : Counts) → Checks t ev (Ok r) → CheckEnds t ev cells₀ holes₀ 0 r.cells r.holes
  check_accepted r h =
      let said : (check_verdict t ev ≡ Ok tt) × (r ≡ counted (cells t) ev) = counts_are_counted (check_verdict t ev) h in
      record {
        answer = sym (ap code said.0);
        cells_told = ap (λ (q : Counts). q.cells) said.1 ∙ sym (ap (λ w. seven_after w (listed dimensions (cells_in (cells t))) cells₀) said.0);
        holes_told = ap (λ (q : Counts). q.holes) said.1 ∙ sym (ap (λ w. seven_after w (listed dimensions (holes_in (cells t) (rows (cells t) ev))) holes₀) said.0);
      }

  pub check_refused : (x : Refusal) (n : ℕ) → Checks t ev (Err x) → n ≡ packed_of x → CheckEnds t ev cells₀ holes₀ n cells₀ holes₀
  check_refused x n h a =
      let v : check_verdict t ev ≡ Err x = refusal_is_refused (check_verdict t ev) _ x h in
      record {
        answer = a ∙ sym (ap code v);
        cells_told = sym (ap (λ w. seven_after w (listed dimensions (cells_in (cells t))) cells₀) v);
        holes_told = sym (ap (λ w. seven_after w (listed dimensions (holes_in (cells t) (rows (cells t) ev))) holes₀) v);
      }

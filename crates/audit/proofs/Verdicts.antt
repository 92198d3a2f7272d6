-- What emptying and the audit answer, way by way out of the code.
-- What carries it: the length decides the first ground, what the search finds the second. Assumes nothing.
use mathlib.Core.Path.{◌≡◌, sym, ap, ◌∙◌}
use mathlib.Core.Bool.{Bool, true, false}
use mathlib.Core.List.{List}
use Prim.Native.Nat.{ℕ}
use Rattle.table.specs.Table.{sized}
use Rattle.audit.specs.Audit.{is_sound, first_breach, breach_in, sound, invalid, audit_grounds}
use Rattle.calls.specs.Calls.{verdict, Ends}
use Rattle.calls.specs.declared.Breach.{Breach}
use Rattle.calls.specs.declared.Refusal.TheVariants.{Length, Invalid}
use Rattle.std.specs.declared.result.Result.TheVariants.{Ok, Err}
use Rattle.std.specs.declared.option.Option.TheVariants.{Some}
use Prim.{tt}
use Rattle.std.specs.declared.option.Option.{Option}
use Rattle.audit.specs.Empty.{emptied, empty_verdict, empty_leaves}

pub empty_refuses : (t : List ℕ) → sized t ≡ false → Ends (empty_verdict t) (empty_leaves t) (Err Length) t
empty_refuses t e = record { answer = simp e; left = simp e }

pub empty_accepts : (t t' : List ℕ) → (sized t ≡ true) → t' ≡ emptied t → Ends (empty_verdict t) (empty_leaves t) (Ok tt) t'
empty_accepts t t' h e = record { answer = simp h; left = simp h e }

pub audit_refuses_length : (t : List ℕ) → sized t ≡ false → Err Length ≡ verdict (audit_grounds t)
audit_refuses_length t e = simp e

sound_is : (t : List ℕ) (b : Bool) → is_sound (first_breach t) ≡ b → sound t ≡ b
unfolding sound
sound_is t b e = e

pub audit_accepts : (t : List ℕ) → (sized t ≡ true) → is_sound (first_breach t) ≡ true → (Ok tt) ≡ verdict (audit_grounds t)
audit_accepts t h e = simp (h, sound_is t true e)

refuses_broken : (t : List ℕ) → sized t ≡ true → sound t ≡ false → Err (invalid t) ≡ verdict (audit_grounds t)
refuses_broken t h e = simp (h, e)

pub audit_refuses_invalid : (t : List ℕ) (b : Breach) → sized t ≡ true → first_breach t ≡ Some b → Err (Invalid b) ≡ verdict (audit_grounds t)
audit_refuses_invalid t b h e =
    ap (λ (f : Option Breach). Err (Invalid (breach_in f))) (sym e)
    ∙ refuses_broken t h (sound_is t false (ap is_sound e))

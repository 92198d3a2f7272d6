-- The face for C and Rust: every function answers 0 or the refusal in one word, and a value is written on acceptance alone. Each
-- description is the call's own, put into these words.
-- A reader must believe these definitions; nothing here is proved.
use Rattle.std.specs.Prelude.{◌≡◌, Bool, true, false, List, ℕ, Result, Ok, Err}
use Rattle.calls.specs.Packed.{packed_of}
use Rattle.calls.specs.Calls.{Verdict}
use Rattle.calls.specs.declared.Refusal.{Refusal}

-- 0 for an accepted call, else the refusal's word
abbrev pub code : {A : Type 0} → Result A Refusal → ℕ
code (Ok _) = 0
code (Err r) = packed_of r

-- what stands behind a value's pointer afterwards: the value, or on a refusal what stood there
abbrev pub value_after : {A : Type 0} → Result A Refusal → A → A
value_after (Ok x) old = x
value_after (Err r) old = old

-- the same where the value is a yes or a no, as 1 or 0
abbrev pub judged_value : Result Bool Refusal → ℕ → ℕ
judged_value (Ok true) old = 1
judged_value (Ok false) old = 0
judged_value (Err r) old = old

-- seven numbers, written on acceptance alone
abbrev pub seven_after : Verdict → List ℕ → List ℕ → List ℕ
seven_after (Ok _) new old = new
seven_after (Err r) new old = old

-- a call that answers r, leaves l in its buffer and v behind the value's pointer
pub record Fills (code : ℕ) (left : List ℕ) (value r : ℕ) (l : List ℕ) (v : ℕ) : Type 0 where
  pub answer : r ≡ code
  pub buffer : l ≡ left
  pub told : v ≡ value

-- How every call is described: its grounds for refusal in their order, of which the first that applies decides; its answer; and
-- what it leaves in the buffer that it may write.
-- A reader must believe these definitions; nothing here is proved.
use Rattle.std.specs.Prelude.{◌≡◌, Bool, List, [], ◌∷◌, ℕ, Result, Ok, Err}
use Prim.{Unit, tt}
use Rattle.counting.specs.Counting.{pick}
use Rattle.calls.specs.declared.Refusal.{Refusal}

-- the answer of a call that has no value of its own, and that of a call that names a cell
abbrev pub Verdict : Type 0
Verdict = Result (Unit {0}) Refusal

abbrev pub Named : Type 0
Named = Result ℕ Refusal

-- a ground for refusal, and whether it applies to the input
pub record Ground : Type 0 where
  pub refusal : Refusal
  pub applies : Bool

-- the first ground that applies decides; where none does, the call is accepted
abbrev pub verdict : List Ground → Verdict
verdict [] = Ok tt
verdict (g ∷ gs) = pick g.applies (Err g.refusal) (verdict gs)

-- what a call gives where it is accepted, and what it gives where it is refused
abbrev pub on_verdict {ℓ} : {A : Type ℓ} → Verdict → A → (Refusal → A) → A
on_verdict (Ok _) a f = a
on_verdict (Err r) a f = f r

-- the answer of a call that names cell c where it is accepted
abbrev pub named : Verdict → ℕ → Named
named v c = on_verdict v (Ok c) Err

-- a buffer that a refusal leaves as it was
abbrev pub leaves : Verdict → List ℕ → List ℕ → List ℕ
leaves v new old = on_verdict v new (λ r. old)

-- A call ends with answer r and leaves l in the buffer that it may write: these are a and b, and nothing else is permitted.
pub record Ends {A B : Type 0} (a : A) (b : B) (r : A) (l : B) : Type 0 where
  pub answer : r ≡ a
  pub left : l ≡ b

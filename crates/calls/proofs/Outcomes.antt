-- Two permitted outcomes of a call are equal: what it answers, and what it leaves.
-- What carries it: both are what the contract names. Assumes nothing.
use mathlib.Core.Path.{◌≡◌, sym, ◌∙◌}
use Rattle.calls.specs.Calls.{Ends}

pub one_outcome : {A B : Type 0} {a r r' : A} {b l l' : B} → Ends a b r l → Ends a b r' l' → (r ≡ r') × (l ≡ l')
one_outcome e e' = (e.answer ∙ sym e'.answer, e.left ∙ sym e'.left)

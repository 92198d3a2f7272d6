-- Emptying leaves a valid table. What carries it: a table of free marks is valid. Assumes nothing.
use mathlib.Core.Path.{◌≡◌, refl}
use mathlib.Core.Bool.{Bool, true, false, not}
use mathlib.Core.List.{List, [], ◌∷◌}
use Prim.Native.Nat.{ℕ}
use native.Mathlib.Omega.{arith}
use borrow.Author.Tests.{not-false}
use Rattle.counting.specs.Counting.{pick}
use Rattle.calls.specs.Calls.{Verdict}
use Rattle.calls.specs.declared.Refusal.{Refusal}
use Rattle.calls.specs.declared.Refusal.TheVariants.{Length}
use Rattle.table.specs.Table.{cells_of, Sized, Valid, sized, on_length}
use Rattle.table.proofs.Empties.{empty_is_valid}
use Rattle.std.specs.declared.result.Result.TheVariants.{Ok, Err}
use Prim.{tt}
use Rattle.calls.proofs.Grounds.{accepted_none_applies}
use Rattle.table.proofs.Sizes.{sized_is_sized}
use Rattle.audit.specs.Empty.{emptied, empty_verdict}

pub emptied_is_valid : (t : List ℕ) → Sized t → Valid (emptied t)
unfolding emptied
emptied_is_valid t s = rw s.whole (empty_is_valid (cells_of t) s.some s.room)

-- an accepted emptying says that the words are a table's
pub accepted_is_sized : (t : List ℕ) → empty_verdict t ≡ Ok tt → Sized t
accepted_is_sized t e = sized_is_sized t (not-false (sized t) (accepted_none_applies (on_length t ∷ []) e).0)

-- where emptying refuses, the length is no table's
pub length_refused : (b : Bool) (r : Refusal) → ◌≡◌ {A = Verdict} (pick (not b) (Err Length) (Ok tt)) (Err r) → (b ≡ false) × (r ≡ Length)
length_refused false r e = (refl, cc)
length_refused true r e = absurd (let z : ◌≡◌ {A = ℕ} 0 1 = cc in omega arith)

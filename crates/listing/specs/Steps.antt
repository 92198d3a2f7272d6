-- What the parts of the program's function leave in the target.
-- A reader need not believe this file: no public call cites it.
use Rattle.std.specs.Prelude.{◌≡◌, List, ℕ, ◌≤◌, take, Result, Ok, Err, IfOk}
use Rattle.calls.specs.declared.Refusal.{Refusal}
use Prim.{tt}
use Rattle.sketch.specs.Form.{longest}
use Rattle.sketch.specs.Written.{file_of}
use Rattle.intake.specs.Import.{import_leaves}
use Rattle.listing.specs.Listing.{blank, list_verdict}

-- what is answered of a text, and left in the target
pub record Converted (text : List ℕ) (r : Result ℕ Refusal) (target : List ℕ) : Type 0 where
  pub short : IfOk r (λ n. n ≤ longest)
  pub refused : (why : Refusal) → r ≡ Err why → list_verdict text ≡ Err why
  pub accepted : (n : ℕ) → r ≡ Ok n → (list_verdict text ≡ Ok tt) × (take n target ≡ file_of (import_leaves blank text))

-- Demand 2 for a session from an accepted part list.
-- What carries it: the table of an accepted list is valid, and runs keep it so. Assumes nothing.
use mathlib.Core.Path.{◌≡◌}
use mathlib.Core.List.{List}
use Prim.Native.Nat.{ℕ}
use Rattle.std.specs.declared.result.Result.TheVariants.{Ok}
use Prim.{tt}
use Rattle.intake.specs.Import.{import_verdict, import_leaves}
use Rattle.intake.proofs.Promises.{accepted_list, accepted_table_of_list}
use Rattle.building.specs.Runs.{Request}
use Rattle.sessions.specs.Sessions.{Session}
use Rattle.sessions.proofs.Sessions.{runs_from_valid}

-- THEOREM: from an accepted part list
pub session_from_list : (t text : List ℕ) (rs : List Request) → import_verdict t text ≡ Ok tt → Session (import_leaves t text) rs
session_from_list t text rs e =
    let a = accepted_list t text e in
    runs_from_valid (import_leaves t text) rs (accepted_table_of_list t text e a.count a.lines a.is_list).valid

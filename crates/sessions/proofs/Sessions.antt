-- Demand 2 for a session, from the emptied table and from an accepted sketch: what any run of cone, merge, weld and compaction calls
-- leaves, refused ones included, is exactly what the published rules give, renumbered where a compaction was called, and it is a semi-simplicial set.
-- What carries it: emptying and an accepted file leave a valid table, and runs keep it so. Assumes nothing.
use mathlib.Core.Path.{◌≡◌, sym, ap, subst}
use mathlib.Core.List.{List}
use Prim.Native.Nat.{ℕ}
use lib.ListN.{length, replicate}
use lib.Dec.{eqb}
use Rattle.counting.specs.Counting.{pick}
use Rattle.calls.specs.Numbers.{number_of}
use Rattle.calls.specs.Calls.{on_verdict, leaves}
use Rattle.calls.specs.Calls.{Verdict}
use Rattle.std.specs.declared.result.Result.TheVariants.{Ok}
use Prim.{tt}
use Rattle.table.specs.Kind.{free_mark}
use Rattle.table.specs.Table.{cells_of, Valid}
use Rattle.audit.specs.Empty.{emptied, empty_verdict, empty_leaves}
use Rattle.audit.proofs.Empties.{emptied_is_valid, accepted_is_sized}
use Rattle.complex.proofs.Families.{valid_is_semi_simplicial}
use Rattle.sketch.specs.Read.{read_verdict, read_leaves, described}
use Rattle.sketch.proofs.RoundTrip.{accepted_valid}
use Rattle.building.specs.Runs.{Request, calls}
use Rattle.building.proofs.Runs.{runs_are_exact, run_keeps_valid}
use Rattle.sessions.specs.Sessions.{Session}

pub runs_from_valid : (t : List ℕ) (rs : List Request) → Valid t → Session t rs
runs_from_valid t rs v =
    record { exact = runs_are_exact t rs v; valid = run_keeps_valid t rs v; semi_simplicial = valid_is_semi_simplicial (calls t rs) (run_keeps_valid t rs v) }

-- THEOREM: from the emptied table
pub session_from_emptied : (t : List ℕ) (rs : List Request) → empty_verdict t ≡ Ok tt → Session (empty_leaves t) rs
session_from_emptied t rs e =
    runs_from_valid (empty_leaves t) rs
    (subst Valid (sym (ap (λ (v : Verdict). leaves v (emptied t) t) e)) (emptied_is_valid t (accepted_is_sized t e)))

-- what the reader leaves of an accepted file is valid
sketch_is_valid : (t f : List ℕ) → read_verdict t f ≡ Ok tt → Valid (read_leaves t f)
sketch_is_valid t f e =
    subst Valid
    (sym (ap (λ (v : Verdict). on_verdict v (described (cells_of t) f) (λ r. pick (eqb (number_of r) 1) t (replicate (length t) free_mark))) e))
    (accepted_valid t f e)

-- THEOREM: from an accepted sketch
pub session_from_sketch : (t f : List ℕ) (rs : List Request) → read_verdict t f ≡ Ok tt → Session (read_leaves t f) rs
session_from_sketch t f rs e = runs_from_valid (read_leaves t f) rs (sketch_is_valid t f e)

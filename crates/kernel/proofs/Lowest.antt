-- 'Several at once: the lowest number applies', for each call without an exception: what is answered is the lowest of the numbers whose
-- test applies. (Boundary, checker and reader are the three exceptions.)
-- What carries it: the numbers of each list of grounds rise. Assumes nothing.
use mathlib.Core.Path.{◌≡◌}
use mathlib.Core.List.{List, [], ◌∷◌}
use Prim.{tt}
use Prim.Native.Nat.{ℕ}
use native.Mathlib.Omega.{arith}
use Rattle.calls.specs.Calls.{verdict}
use Rattle.calls.specs.Order.{Lowest}
use Rattle.calls.specs.declared.Refusal.{Refusal}
use Rattle.std.specs.declared.result.Result.TheVariants.{Err}
use Rattle.calls.proofs.Order.{lowest_applies}
use Rattle.table.specs.Table.{on_length}
use Rattle.audit.specs.Audit.{audit_grounds}
use Rattle.audit.specs.Empty.{empty_verdict}
use Rattle.merge.specs.Merge.{merge_grounds, merge_verdict}
use Rattle.weld.specs.Call.{weld_grounds, weld_verdict}
use Rattle.cone.specs.Cone.{cone_grounds, cone_verdict}
use Rattle.compaction.specs.Call.{compact_grounds, compact_verdict}
use Rattle.reading.specs.Incidence.{incidence_grounds}
use Rattle.corner.specs.Corner.{corner_grounds}
use Rattle.reducer.specs.Reduce.{reduce_grounds, reduce_verdict}
use Rattle.sketch.specs.Written.{write_grounds, write_verdict}

pub lowest_empty : (t : List ℕ) (r : Refusal) → empty_verdict t ≡ Err r → Lowest (on_length t ∷ []) r
lowest_empty t r e = lowest_applies 0 (on_length t ∷ []) r (omega arith, tt) e

pub lowest_audit : (t : List ℕ) (r : Refusal) → verdict (audit_grounds t) ≡ Err r → Lowest (audit_grounds t) r
lowest_audit t r e = lowest_applies 0 (audit_grounds t) r (omega arith, (omega arith, tt)) e

pub lowest_cone : (t marks : List ℕ) (r : Refusal) → cone_verdict t marks ≡ Err r → Lowest (cone_grounds t marks) r
unfolding cone_verdict
lowest_cone t marks r e =
    lowest_applies 0 (cone_grounds t marks) r (omega arith, (omega arith, (omega arith, (omega arith, (omega arith, (omega arith, tt)))))) e

pub lowest_merge : (t : List ℕ) (a b : ℕ) (r : Refusal) → merge_verdict t a b ≡ Err r → Lowest (merge_grounds t a b) r
unfolding merge_verdict
lowest_merge t a b r e =
    lowest_applies 0 (merge_grounds t a b) r (omega arith, (omega arith, (omega arith, (omega arith, (omega arith, (omega arith, tt)))))) e

pub lowest_weld : (t : List ℕ) (a b : ℕ) (r : Refusal) → weld_verdict t a b ≡ Err r → Lowest (weld_grounds t a b) r
unfolding weld_verdict
lowest_weld t a b r e =
    lowest_applies 0 (weld_grounds t a b) r (omega arith, (omega arith, (omega arith, (omega arith, (omega arith, tt))))) e

pub lowest_compact : (t list : List ℕ) (r : Refusal) → compact_verdict t list ≡ Err r → Lowest (compact_grounds t list) r
unfolding compact_verdict
lowest_compact t list r e = lowest_applies 0 (compact_grounds t list) r (omega arith, (omega arith, tt)) e

pub lowest_incidence : (t : List ℕ) (s u : ℕ) (r : Refusal) → verdict (incidence_grounds t s u) ≡ Err r → Lowest (incidence_grounds t s u) r
lowest_incidence t s u r e =
    lowest_applies 0 (incidence_grounds t s u) r (omega arith, (omega arith, (omega arith, (omega arith, tt)))) e

pub lowest_corner : (t : List ℕ) (c k : ℕ) (r : Refusal) → verdict (corner_grounds t c k) ≡ Err r → Lowest (corner_grounds t c k) r
lowest_corner t c k r e =
    lowest_applies 0 (corner_grounds t c k) r (omega arith, (omega arith, (omega arith, (omega arith, tt)))) e

pub lowest_reduce : (t ev : List ℕ) (r : Refusal) → reduce_verdict t ev ≡ Err r → Lowest (reduce_grounds t ev) r
unfolding reduce_verdict
lowest_reduce t ev r e = lowest_applies 0 (reduce_grounds t ev) r (omega arith, (omega arith, tt)) e

pub lowest_write : (t target : List ℕ) (r : Refusal) → write_verdict t target ≡ Err r → Lowest (write_grounds t target) r
unfolding write_verdict
lowest_write t target r e =
    lowest_applies 0 (write_grounds t target) r (omega arith, (omega arith, (omega arith, tt))) e

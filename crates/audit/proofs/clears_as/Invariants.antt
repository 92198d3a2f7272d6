-- `audit::clears_as` meets its contract: where no comparison differed, the cell breaks nothing.
-- The invariants: in the second loop over the faces, each face so far lies inside the table. In the other loops bad is 0 only where it
-- was 0 before the loop and every comparison of the loop so far was equal. Assumes nothing.
use mathlib.Core.Path.{◌≡◌}
use Prim.Native.Nat.{ℕ, ◌-◌, ◌<◌}
use lib.ListN.{get_or}
use Rattle.table.specs.Kind.{free_mark}
use Rattle.table.specs.Table.{dim, face}
use Rattle.audit.proofs.Clearing.{Agrees}
use Rattle.audit.proofs.clears_as.Given as goal

abbrev pub invariant-loop-f : goal.invariant-loop-f
invariant-loop-f l =
    l.bad ≡ 0 → (l.initial.bad ≡ 0) × ((k : ℕ) → k < l.f-index → get_or l.f-items k 0 ≡ free_mark)

abbrev pub invariant-loop-f-2 : goal.invariant-loop-f-2
invariant-loop-f-2 l =
    (k : ℕ) → k < l.f-index → get_or l.f-items k 0 < l.n

abbrev pub invariant-loop-f-3 : goal.invariant-loop-f-3
invariant-loop-f-3 l =
    l.bad ≡ 0 → (l.initial.bad ≡ 0) × ((k : ℕ) → k < l.f-index → dim l.t (get_or l.f-items k 0) ≡ l.p - 1)

abbrev pub invariant-loop-l : goal.invariant-loop-l
invariant-loop-l s =
    s.bad ≡ 0 → (s.initial.bad ≡ 0) × ((k : ℕ) → k < s.l → face s.t s.f k ≡ face s.t (get_or s.faces k 0) (s.j - 1))

abbrev pub invariant-loop-j : goal.invariant-loop-j
invariant-loop-j l =
    l.bad ≡ 0 → (l.initial.bad ≡ 0) × ((k : ℕ) → k < l.j → Agrees l.t l.faces k)

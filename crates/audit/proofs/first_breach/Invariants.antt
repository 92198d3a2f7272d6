-- `audit::first_breach` meets its contract: where the pass stops, the breach is the first one, and where it ends there is none.
-- The invariants: Ic, every cell below c has passed; If, every face place of c below j; Ij, all its face places, and every pair of
-- the law below j; Il, every pair of j with a place below l. In each nothing is found yet. The measures, μc to μl: what is left of
-- each range. Assumes nothing.
use mathlib.Core.Path.{◌≡◌}
use Prim.Native.Nat.{◌-◌}
use Rattle.audit.specs.Audit.{scan, face_breach, law_breach, cell_breach}
use Rattle.std.specs.declared.option.Option.TheVariants.{None}
use Rattle.audit.proofs.Valid.{law_scan}
use Rattle.audit.proofs.Passes.{Here}
use Rattle.audit.proofs.first_breach.Given as goal

abbrev pub invariant-loop-j : goal.invariant-loop-j
invariant-loop-j l =
    (l.found ≡ None) × Here l.t l.n l.c l.p l.used l.places l.faces × (scan (face_breach l.t l.c) l.j ≡ None)

abbrev pub decreases-loop-j : goal.decreases-loop-j
decreases-loop-j l = l.used - l.j

abbrev pub invariant-loop-l : goal.invariant-loop-l
invariant-loop-l s = (s.found ≡ None) × (scan (law_breach s.t s.c s.j) s.l ≡ None)

abbrev pub decreases-loop-l : goal.decreases-loop-l
decreases-loop-l s = s.j - s.l

abbrev pub invariant-loop-j-2 : goal.invariant-loop-j-2
invariant-loop-j-2 l =
    (l.found ≡ None) × (scan (face_breach l.t l.c) l.used ≡ None) × (scan (law_scan l.t l.c) l.j ≡ None)

abbrev pub decreases-loop-j-2 : goal.decreases-loop-j-2
decreases-loop-j-2 l = l.places - l.j

abbrev pub invariant-cells : goal.invariant-cells
invariant-cells l = (l.found ≡ None) × (scan (cell_breach l.t) l.c ≡ None)

abbrev pub decreases-cells : goal.decreases-cells
decreases-cells l = l.n - l.c

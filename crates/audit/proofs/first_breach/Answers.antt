-- `audit::first_breach` meets its contract: where the pass stops, the breach is the first one, and where it ends there is none.
-- The invariants: Ic, every cell below c has passed; If, every face place of c below j; Ij, all its face places, and every pair of
-- the law below j; Il, every pair of j with a place below l. In each nothing is found yet. The measures, μc to μl: what is left of
-- each range. Assumes nothing.
use mathlib.Core.Path.{sym, ◌∙◌}
use native.Mathlib.Omega.{arith}
use borrow.Author.Rules.{rules}
use Rattle.audit.proofs.Scans.{scan_zero, scan_fewer}
use Rattle.audit.proofs.Places.{law_places_fit}
use Rattle.audit.proofs.Passes.{stops_at_record, none_found, stops_outside, stops_at_dim, face_passes, face_known, stops_at_law, pair_passes, place_passes, cell_passes}
use Rattle.audit.proofs.first_breach.Goals as goal

pub loop-j-init : goal.loop-j-init
loop-j-init c = (
  c.cells.invariant.0,
  record {
    cell = record {
      cells = c.room-n.ensures;
      inside = c.cells-test.true;
      dimension = c.dim-p.ensures;
      places_used = c.used-used.ensures.0;
      places_law = c.law_places-places.ensures.0;
      fits = c.used-used.ensures.1;
      fewer = omega (arith, c.used-used.ensures.0, c.law_places-places.ensures.0, law_places_fit c.dim-p.result);
      by_value = c.faces-faces.ensures;
    };
    earlier = c.cells.invariant.1;
    recorded = sym c.record_sound.ensures ∙ c.if-not-record_sound.false;
  },
  scan_zero _,
)

pub loop-j-preserved : goal.loop-j-preserved
loop-j-preserved c =
    let i = c.loop-j.invariant in
    (i.0, i.1, face_passes i.1 _ _ c.loop-j-test.true i.2 c.dim.ensures c.if-f-n.false c.if-dim-p.false)

pub loop-j-2-init : goal.loop-j-2-init
loop-j-2-init c =
    let i = c.loop-j.invariant in
    (i.0, scan_fewer _ _ _ c.loop-j-test.false i.2, scan_zero _)

pub loop-l-init : goal.loop-l-init
loop-l-init c = (c.loop-j-2.invariant.0, scan_zero _)

pub face-requires : goal.face-requires
face-requires c =
    (face_known c.loop-j.invariant.1 c.loop-j-2.invariant.1 _ c.loop-j-2-test.true, search rules)

pub face-requires-in-loop-l : goal.face-requires-in-loop-l
face-requires-in-loop-l c =
    let known = face_known c.loop-j.invariant.1 c.loop-j-2.invariant.1 in
    (omega (arith, known _ c.loop-j-2-test.true, known c.loop-l.l (omega arith)), search rules)

pub loop-l-preserved : goal.loop-l-preserved
loop-l-preserved c =
    let k = c.loop-l.invariant in
    (k.0, pair_passes c.loop-j.invariant.1 c.loop-j-2.invariant.1 _ _ _ _ c.loop-j-2-test.true c.loop-l-test.true k.1 c.face.ensures c.face-in-loop-l.ensures c.if-face.false)

pub loop-j-2-preserved : goal.loop-j-2-preserved
loop-j-2-preserved c =
    let i = c.loop-l.invariant in
    let k = c.loop-j-2.invariant in
    (i.0, k.1, place_passes _ _ _ _ c.loop-l-test.false i.1 k.2)

pub cells-preserved : goal.cells-preserved
cells-preserved c =
    let i = c.loop-j-2.invariant in
    (i.0, cell_passes c.loop-j.invariant.1 i.1 _ c.loop-j-2-test.false i.2)

pub returns-after-cells : goal.returns-after-cells
returns-after-cells c =
    let i = c.cells.invariant in
    i.0 ∙ none_found _ _ _ c.room-n.ensures c.cells-test.false i.1

pub returns-then-not-record_sound : goal.returns-then-not-record_sound
returns-then-not-record_sound c =
    stops_at_record _ _ _ c.room-n.ensures c.cells-test.true c.cells.invariant.1
    (sym c.record_sound.ensures ∙ c.if-not-record_sound.true)

pub returns-then-f-n : goal.returns-then-f-n
returns-then-f-n c =
    let i = c.loop-j.invariant in
    stops_outside i.1 _ c.loop-j-test.true i.2 c.if-f-n.true

pub returns-then-dim-p : goal.returns-then-dim-p
returns-then-dim-p c =
    let i = c.loop-j.invariant in
    stops_at_dim i.1 _ _ c.loop-j-test.true i.2 c.dim.ensures c.if-dim-p.true

pub returns-then-face : goal.returns-then-face
returns-then-face c =
    let k = c.loop-j-2.invariant in
    stops_at_law c.loop-j.invariant.1 k.1 _ _ _ _ c.loop-j-2-test.true c.loop-l-test.true c.loop-l.invariant.1 c.face.ensures c.face-in-loop-l.ensures k.2 c.if-face.true

-- `check_rows` meets its contract. The invariant: the rows passed keep both rules, the set holds their largest boundary cells, the
-- counters count those with a boundary, and the seven sets hold the live cells passed. Assumes nothing.
use mathlib.Core.Path.{◌≡◌, subst, ◌∙◌}
use mathlib.Core.Bool.{Bool, true}
use Prim.Native.Nat.{◌≤◌, ◌<◌}
use native.Mathlib.Omega.{arith}
use Rattle.std.specs.Prelude.{Ok}
use Rattle.std.proofs.lemmas.Result.{err_from_is_err_and}
use Rattle.table.specs.Kind.{top}
use Rattle.rows.specs.Seen.{cells_of}
use Rattle.checker.specs.Row.{Found}
use Rattle.checker.proofs.LiveSets.{lives_none}
use Rattle.checker.proofs.Walk.{walked_same, walk_none, walk_breaks, walk_closed, walk_bounds, bounds_level, counter_small, walk_accepts, walk_meets, walk_counts}
use Rattle.checker.proofs.Answers.{refused_answer, accepted_answer, counts_fit, differences_are_holes}
use Rattle.checker.proofs.check_rows.Goals as goal
use Rattle.checker.proofs.check_rows.Goals.{After-dim, After-loop-c, In-loop-c, then-branch, else-branch}

inside : (i : In-loop-c) → i.loop-c.c < (cells_of i.args.evidence.view).size
inside i = omega (arith, i.loop-c-test.true, i.size-c-end.ensures)

-- a row with a boundary keeps both rules,
bounds : (c : After-dim) → let e = c.args.evidence in Found (cells_of e.view) e.words.now c.loop-c.c c.loop-c.met c.take_row.new.met (Ok true)
bounds c =
    let e = c.args.evidence in
    subst (λ b. Found (cells_of e.view) e.words.now c.loop-c.c c.loop-c.met c.take_row.new.met (Ok b)) c.if-branch.true c.in_ok-take_row.ensures

-- and is that of a live cell, which has a dimension
level : (c : After-dim) → c.dim.result ≤ top
level c =
    let e = c.args.evidence in
    bounds_level (cells_of e.view) e.words.now e.view.frame.lawful e.fits c.loop-c.c (omega (arith, c.loop-c-test.true, c.size-c-end.ensures)) _ _ _
    c.loop-c.invariant.0 (e.view.frame.low c.loop-c.c) (bounds c) _ c.dim.ensures

at_end : (c : After-loop-c) → c.loop-c.c ≡ (cells_of c.args.evidence.view).size
at_end c = omega (arith, c.loop-c-test.false, c.loop-c.auto.c-end, c.size-c-end.ensures)

pub loop-c-init : goal.loop-c-init
loop-c-init c = (walk_none _ _, lives_none _)

pub returns-in_err-take_row : goal.returns-in_err-take_row
returns-in_err-take_row c =
    let e = c.args.evidence in
    let p = err_from_is_err_and c.from_residual.result c.from_residual.ensures.1 in
    rw (p.1, p.2)
    (refused_answer (cells_of e.view) e.words.now _ _
    (walk_breaks (cells_of e.view) e.words.now e.view.frame.lawful e.fits c.loop-c.c (inside (goal.at.returns-in_err-take_row c).In-loop-c) _ c.take_row.new.met _ c.loop-c.invariant.0 _ c.in_err-take_row.ensures))

pub offset_bounds-bounding-dim : goal.offset_bounds-bounding-dim
offset_bounds-bounding-dim c = omega (arith, level (goal.at.offset_bounds-bounding-dim c).After-dim)

pub bounds-bounding-dim : goal.bounds-bounding-dim
bounds-bounding-dim c = omega (arith, level (goal.at.bounds-bounding-dim c).After-dim)

pub overflow_add-bounding : goal.overflow_add-bounding
overflow_add-bounding c =
    let e = c.args.evidence in
    omega (arith, counter_small (cells_of e.view) e.words.now e.view.frame.lawful e.fits c.loop-c.c (inside (goal.at.overflow_add-bounding c).In-loop-c) c.loop-c.met c.loop-c.met c.loop-c.bounding c.loop-c.invariant.0 e.view.frame.room c.dim.result (level (goal.at.overflow_add-bounding c).After-dim))

pub bounds-bounding-dim-then-branch : goal.bounds-bounding-dim-then-branch
bounds-bounding-dim-then-branch c = omega (arith, level (goal.at.bounds-bounding-dim-then-branch c).After-dim)

pub loop-c-preserved : goal.loop-c-preserved
loop-c-preserved c =
    let e = c.args.evidence in
    let i = inside (goal.at.loop-c-preserved c).In-loop-c in
    let found = λ (b : Bool). Found (cells_of e.view) e.words.now c.loop-c.c c.loop-c.met c.take_row.new.met (Ok b) in (
      elim c.if-branch.branch [
        | then-branch w ↦ walked_same w.bounding-is (walk_bounds (cells_of e.view) e.words.now e.view.frame.lawful e.fits c.loop-c.c i _ _ _ c.loop-c.invariant.0 e.view.frame.room (e.view.frame.low c.loop-c.c) (subst found w.if-branch.true c.in_ok-take_row.ensures) _ w.dim.ensures)
        | else-branch w ↦ walked_same w.bounding-is (walk_closed (cells_of e.view) e.words.now e.view.frame.lawful e.fits c.loop-c.c i _ _ _ c.loop-c.invariant.0 (subst found w.if-branch.false c.in_ok-take_row.ensures))
      ],
      c.add_live.ensures,
    )

pub holes_of-holes-requires : goal.holes_of-holes-requires
holes_of-holes-requires c =
    let e = c.args.evidence in
    let l = c.loop-c in
    let end = at_end (goal.at.holes_of-holes-requires c).After-loop-c in
    let w = l.invariant.0 in
    counts_fit (cells_of e.view) e.words.now _ l.bounding e.view.frame.lawful
    (walk_meets (cells_of e.view) e.words.now e.view.frame.lawful e.fits l.c end l.met l.bounding w)
    c.census-cells.ensures w.tally.long
    (walk_counts (cells_of e.view) e.words.now e.view.frame.lawful e.fits l.c end l.met l.bounding w)

pub returns : goal.returns
returns c =
    let e = c.args.evidence in
    let l = c.loop-c in
    let end = at_end (goal.at.returns c).After-loop-c in
    let w = l.invariant.0 in
    accepted_answer (cells_of e.view) e.words.now _
    (walk_accepts (cells_of e.view) e.words.now e.view.frame.lawful e.fits l.c end l.met l.bounding w)
    _ c.census-cells.ensures
    (c.holes_of-holes.ensures ∙ differences_are_holes (cells_of e.view) e.words.now _ l.bounding e.view.frame.lawful
    (walk_meets (cells_of e.view) e.words.now e.view.frame.lawful e.fits l.c end l.met l.bounding w)
    c.census-cells.ensures w.tally.long
    (walk_counts (cells_of e.view) e.words.now e.view.frame.lawful e.fits l.c end l.met l.bounding w))

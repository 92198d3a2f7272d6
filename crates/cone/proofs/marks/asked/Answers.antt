-- `asked` meets its contract. The invariant: `Passed`, what the pass knows before cell c. Assumes nothing.
use native.Mathlib.Omega.{arith}
use mathlib.Core.Path.{sym, ◌∙◌}
use Rattle.cone.proofs.Searches.{pass_starts, pass_unmarked, pass_marked, dead_refused, past_refused, Decides, pass_ends}
use Rattle.cone.proofs.marks.asked.Goals as goal
use Rattle.cone.proofs.marks.asked.Goals.{After-loop-c, then-has+else-not-live, else-has}

over : (c : After-loop-c) → Decides c.args.t.now c.args.marks.now c.loop-c.leaks c.loop-c.top
over c = pass_ends _ _ _ _ _ _ (omega arith) c.marks_end-end.ensures (omega arith) c.loop-c.invariant

pub returns-then-end-room : goal.returns-then-end-room
returns-then-end-room c = past_refused _ _ _ c.marks_end-end.ensures (omega arith)

pub loop-c-init : goal.loop-c-init
loop-c-init c = pass_starts _ _

pub returns-then-not-live : goal.returns-then-not-live
returns-then-not-live c =
    dead_refused _ _ _ (sym c.has.ensures ∙ c.if-has.true) (sym c.live.ensures ∙ c.if-not-live.true)

pub loop-c-preserved : goal.loop-c-preserved
loop-c-preserved c =
    let i = c.loop-c.invariant in
    elim c.if-has.branch [
      | then-has+else-not-live w ↦
          rw (w.leaks-is, w.top-is)
          (pass_marked _ _ _ _ _ i _ _ (sym c.has.ensures ∙ w.if-has.true) (sym w.live.ensures ∙ w.if-not-live.false) w.face_open-leaks.ensures w.dim.ensures)
      | else-has w ↦ rw (w.leaks-is, w.top-is) (pass_unmarked _ _ _ _ _ i (sym c.has.ensures ∙ w.if-has.false))
    ]

pub returns-then-leaks : goal.returns-then-leaks
returns-then-leaks c = sym (over (goal.at.returns-then-leaks c).After-loop-c ∙ rw c.if-leaks.true)

pub returns-then-top : goal.returns-then-top
returns-then-top c = sym (over (goal.at.returns-then-top c).After-loop-c ∙ rw (c.if-leaks.false, c.if-top.true))

pub returns : goal.returns
returns c = sym (over (goal.at.returns c).After-loop-c ∙ rw (c.if-leaks.false, c.if-top.false))

-- `raise` meets its contract. The invariant: the table is the old one with the cones of the marked cells below s. Assumes nothing.
use mathlib.Core.Path.{sym, ◌∙◌}
use native.Mathlib.Omega.{arith}
use Rattle.cone.proofs.Turns.{words_fit, ends, raised_starts, raised_coneable, raised_more, raised_kept, apex_fits, raised_ends}
use Rattle.cone.proofs.raising.raise.Goals as goal
use Rattle.cone.proofs.raising.raise.Goals.{then-has, else-has}

pub loop-s-init : goal.loop-s-init
loop-s-init c = raised_starts _ _ _ c.requires

pub put_cone-requires : goal.put_cone-requires
put_cone-requires c =
    let l = c.loop-s in
    let end = ends _ _ _ c.requires _ c.marks_end-s-end.ensures in
    raised_coneable _ _ _ c.requires l.t l.s l.invariant (omega (arith, c.loop-s-test.true, end.inside)) (sym c.has.ensures ∙ c.if-has.true)

pub loop-s-preserved : goal.loop-s-preserved
loop-s-preserved c =
    let l = c.loop-s in
    let end = ends _ _ _ c.requires _ c.marks_end-s-end.ensures in
    elim c.if-has.branch [
      | then-has w ↦
          rw w.t-is (raised_more _ _ _ c.requires l.t l.s l.invariant (omega (arith, c.loop-s-test.true, end.inside)) (sym c.has.ensures ∙ w.if-has.true) _ w.put_cone.ensures)
      | else-has w ↦ raised_kept _ _ _ c.requires l.t l.s l.invariant (omega (arith, c.loop-s-test.true, end.inside)) (sym c.has.ensures ∙ w.if-has.false) _ w.t-is
    ]

pub put-requires : goal.put-requires
put-requires c =
    let l = c.loop-s in
    apex_fits _ _ _ c.requires l.t l.s l.invariant

pub returns : goal.returns
returns c =
    let l = c.loop-s in
    raised_ends _ _ _ c.requires l.t l.s l.invariant _ (omega (arith, l.auto.s-end, c.loop-s-test.false)) c.marks_end-s-end.ensures _ c.put.ensures

pub marks_end-s-end-requires : goal.marks_end-s-end-requires
marks_end-s-end-requires c = words_fit _ _ _ c.requires

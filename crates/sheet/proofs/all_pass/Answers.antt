-- `sheet::all_pass` meets its contract. The invariant: every cell below c passes. Assumes nothing.
use mathlib.Core.Bool.{not}
use mathlib.Core.Path.{ap}
use native.Mathlib.Omega.{arith}
use Rattle.sheet.proofs.Passing.{passed_none, passed_more, passed_stops, passed_all}
use Rattle.sheet.proofs.all_pass.Goals as goal

pub loop-c-init : goal.loop-c-init
loop-c-init c = let a = c.args in passed_none a.t.now a.sides.now a.l

pub returns-then-not-passes : goal.returns-then-not-passes
returns-then-not-passes c =
    let a = c.args in
    passed_stops a.t.now a.sides.now a.l _ _ _ _ c.room-c-end.ensures c.loop-c-test.true c.dim.ensures c.passes.ensures (ap not c.if-not-passes.true)

pub loop-c-preserved : goal.loop-c-preserved
loop-c-preserved c =
    let a = c.args in
    passed_more a.t.now a.sides.now a.l _ _ _ c.loop-c.invariant c.dim.ensures c.passes.ensures (ap not c.if-not-passes.false)

pub returns : goal.returns
returns c =
    let a = c.args in
    passed_all a.t.now a.sides.now a.l _ _ c.room-c-end.ensures (omega arith) c.loop-c-test.false c.loop-c.invariant

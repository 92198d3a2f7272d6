-- `reading::add_cell` meets its contract. The invariant: every number has what the places passed add to it. Assumes nothing.
use native.Mathlib.Omega.{arith}
use Rattle.reading.proofs.Registers.{back}
use Rattle.reading.proofs.Adding.{added_none, place_allowed, place_done, adding_back, all_added}
use Rattle.reading.proofs.add_cell.Goals as goal

pub loop-j-init : goal.loop-j-init
loop-j-init c = let a = c.args in λ u h. added_none a.t.now a.c (back a.x) a.res.now u

pub put-requires : goal.put-requires
put-requires c =
    let a = c.args in
    place_allowed a.t.now a.c (back a.x) a.res.now (adding_back c.ranges.x c.requires) c.loop-j.res c.loop-j.j
    c.face.result c.loop-j-test.true c.face.ensures c.loop-j.auto.res c.loop-j.invariant

pub loop-j-preserved : goal.loop-j-preserved
loop-j-preserved c =
    let a = c.args in
    place_done a.t.now a.c (back a.x) a.res.now (adding_back c.ranges.x c.requires) c.loop-j.res c.loop-j.j
    c.face.result c.loop-j-test.true c.face.ensures c.loop-j.auto.res c.loop-j.invariant c.put.new.res c.put.ensures

pub returns : goal.returns
returns c =
    let a = c.args in
    all_added a.t.now a.c a.used c.loop-j.j a.x a.res.now c.loop-j.res c.ranges.x (omega arith) c.loop-j-test.false c.loop-j.auto.res c.loop-j.invariant

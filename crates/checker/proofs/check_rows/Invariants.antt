-- `check_rows` meets its contract. The invariant: the rows passed keep both rules, the set holds their largest boundary cells, the
-- counters count those with a boundary, and the seven sets hold the live cells passed. Assumes nothing.
use Rattle.rows.specs.Seen.{cells_of}
use Rattle.checker.specs.Row.{Lives}
use Rattle.checker.proofs.Walk.{Walked}
use Rattle.checker.proofs.check_rows.Given as goal

abbrev pub invariant-loop-c : goal.invariant-loop-c
invariant-loop-c l =
    let K = cells_of l.evidence.view in
    Walked K l.evidence.words.now l.c l.met l.bounding × Lives K l.c l.lives

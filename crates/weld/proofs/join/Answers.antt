-- `weld::join` meets its contract: the larger number is sent to the smaller; one class stays as it is. Assumes nothing.
use Rattle.weld.proofs.Sending.{join_same, join_sent}
use Rattle.weld.proofs.join.Goals as goal

pub returns-then-i-j : goal.returns-then-i-j
returns-then-i-j c =
    let p = c.requires in
    join_sent _ _ p.0 _ _ p.1 p.2 _ _ _ c.send.ensures c.min.ensures c.max.ensures

pub returns-else-i-j : goal.returns-else-i-j
returns-else-i-j c =
    let p = c.requires in
    join_same _ _ p.0 _ _ p.1 p.2 c.if-i-j.false

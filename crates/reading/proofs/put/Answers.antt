-- `reading::put` meets its contract: on either side of the test of the place the sum at u passes through 64 bits and comes back.
-- The number that was read, the coefficient and their sum fit. Assumes nothing.
use Rattle.std.proofs.Common.{rules}
use Rattle.reading.proofs.Registers.{Summing, even_fits, odd_fits, even_puts, odd_puts}
use Rattle.reading.proofs.put.Goals as goal

pub overflow_add-res : goal.overflow_add-res
overflow_add-res c =
    let a = c.args in
    let s : Summing a.res.now a.u a.j a.x = record { old = search rules; new = c.ranges.x; sum = c.requires.1 } in
    even_fits s c.if-j-eq0.true

pub overflow_sub-res : goal.overflow_sub-res
overflow_sub-res c =
    let a = c.args in
    let s : Summing a.res.now a.u a.j a.x = record { old = search rules; new = c.ranges.x; sum = c.requires.1 } in
    odd_fits s c.if-j-eq0.false

pub returns-then-j-eq0 : goal.returns-then-j-eq0
returns-then-j-eq0 c =
    let a = c.args in
    let s : Summing a.res.now a.u a.j a.x = record { old = search rules; new = c.ranges.x; sum = c.requires.1 } in
    even_puts s c.if-j-eq0.true

pub returns-else-j-eq0 : goal.returns-else-j-eq0
returns-else-j-eq0 c =
    let a = c.args in
    let s : Summing a.res.now a.u a.j a.x = record { old = search rules; new = c.ranges.x; sum = c.requires.1 } in
    odd_puts s c.if-j-eq0.false

-- `read_line` meets its contract. The invariant: the line holds the numbers passed, each with its space. Assumes nothing.
use mathlib.Core.Path.{refl}
use mathlib.Core.List.{[], ◌∷◌}
use native.Mathlib.Omega.{arith}
use lib.ListN.{length-append}
use Rattle.lines.proofs.LineReads.{led_none, led_more, line_read, none_number, none_eighth, none_byte}
use Rattle.lines.proofs.read_line.Goals as goal

pub loop-n-init : goal.loop-n-init
loop-n-init c = rw c.new-line.ensures (refl, led_none _ _ c.requires)

pub returns-in_err-v : goal.returns-in_err-v
returns-in_err-v c = rw c.from_residual.ensures (none_number _ _ _ _ c.loop-n.invariant.1 c.in_err-v.ensures)

pub returns-in-10 : goal.returns-in-10
returns-in-10 c =
    rw c.push.ensures (line_read _ _ _ _ c.loop-n.invariant.1 _ _ c.in_ok-v.ensures (omega (arith, c.loop-n.invariant.0)) c.in-10.is)

pub returns-in_default : goal.returns-in_default
returns-in_default c = none_byte _ _ _ _ c.loop-n.invariant.1 _ _ c.in_ok-v.ensures (λ e. omega arith) (λ e. omega arith)

pub loop-n-preserved : goal.loop-n-preserved
loop-n-preserved c =
    let l = c.loop-n.invariant in
    rw c.push.ensures (omega (arith, l.0, length-append c.loop-n.line (c.in_ok-v.v ∷ [])), led_more _ _ _ _ l.1 _ _ c.in_ok-v.ensures c.in-32.is)

pub returns : goal.returns
returns c = none_eighth _ _ _ _ c.loop-n.invariant.1 (omega (arith, c.loop-n.invariant.0))

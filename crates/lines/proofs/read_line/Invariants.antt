-- `read_line` meets its contract. The invariant: the line holds the numbers passed, each with its space. Assumes nothing.
use mathlib.Core.Path.{◌≡◌}
use lib.ListN.{length}
use Rattle.lines.proofs.LineReads.{Led}
use Rattle.lines.proofs.read_line.Given as goal

abbrev pub invariant-loop-n : goal.invariant-loop-n
invariant-loop-n l = (length l.line ≡ l._n) × Led l.text l.at l.line l.i

-- `lines`. The invariant: the lines of the dimensions passed are the text.
use Rattle.std.proofs.Common.{◌≡◌, ◌≤◌, ◌*◌, get_or, length}
use Rattle.sketch.specs.Form.{pieces}
use Rattle.report.specs.Lines.{line, longest_line}
use Rattle.report.proofs.lines.Given as goal

abbrev pub invariant-loop-p : goal.invariant-loop-p
invariant-loop-p l =
    record {
      text : l.text ≡ pieces (λ q. line q (get_or l.counts.cells q 0) (get_or l.counts.holes q 0)) l.p;
      short : length l.text ≤ longest_line * l.p;
    }

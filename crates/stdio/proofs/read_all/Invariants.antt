-- `read_all`. The invariant: the bytes so far lie inside the buffer, whose length stays, and the reader has given them. The measure: the
-- room that is left.
use Rattle.std.proofs.Common.{length, take, ◌-◌, ◌≡◌, ◌≤◌}
use Rattle.std.specs.Io.KnownBytes.{Consumes}
use Rattle.stdio.proofs.read_all.Given as goal

abbrev pub invariant-loop-done : goal.invariant-loop-done
invariant-loop-done g l =
    record {
      inside : l.done ≤ length l.buf;
      sized : length l.buf ≡ length l.initial.buf;
      given : Consumes (g.R.Read.remaining l.initial.from) (g.R.Read.remaining l.from) (take l.done l.buf);
    }

abbrev pub decreases-loop-done : goal.decreases-loop-done
decreases-loop-done g l = length l.initial.buf - l.done

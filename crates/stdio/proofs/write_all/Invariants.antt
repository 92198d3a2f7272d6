-- `write_all`. The invariant: the writer holds what is gone from `rest`. The measure: the bytes that are left.
use Rattle.std.proofs.Common.{length, ◌++◌, ◌≡◌, ℕ, List}
use Rattle.std.specs.Io.KnownBytes.{Appends}
use Rattle.stdio.proofs.write_all.Given as goal

abbrev pub invariant-loop-rest : goal.invariant-loop-rest
invariant-loop-rest g l =
    (put : List ℕ) × (l.bytes ≡ put ++ l.rest) × Appends (g.W.Write.contents l.initial.to) (g.W.Write.contents l.to) put

abbrev pub decreases-loop-rest : goal.decreases-loop-rest
decreases-loop-rest g l = length l.rest

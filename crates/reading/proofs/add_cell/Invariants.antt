-- `reading::add_cell` meets its contract. The invariant: every number has what the places passed add to it. Assumes nothing.
use mathlib.Core.Path.{◌≡◌}
use Prim.Native.Nat.{ℕ, ◌<◌}
use lib.ListN.{length, get_or}
use lib.IntN.{pos}
use Rattle.reading.specs.Steps.{added}
use Rattle.reading.proofs.add_cell.Given as goal

abbrev pub invariant-loop-j : goal.invariant-loop-j
invariant-loop-j l =
    (u : ℕ) → u < length l.res → get_or l.res u (pos 0) ≡ added l.t l.c l.x l.initial.res l.j u

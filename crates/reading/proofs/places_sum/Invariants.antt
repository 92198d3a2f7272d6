-- `reading::places_sum` meets its contract. The invariant: the sum, read from its bits, is that of the places passed. Assumes nothing.
use mathlib.Core.Path.{◌≡◌}
use Rattle.reading.specs.Sums.{sum_to}
use Rattle.reading.proofs.Incidences.{place_sign}
use Rattle.reading.proofs.places_sum.Given as goal

abbrev pub invariant-loop-j : goal.invariant-loop-j
invariant-loop-j l = l.sum ≡ sum_to l.j (place_sign l.t l.s l.u)

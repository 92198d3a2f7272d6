-- `cone_record` meets its contract. The invariant: the first j sides are laid out. Assumes nothing.
use mathlib.Core.Path.{◌≡◌}
use lib.ListN.{length, get_or}
use Rattle.table.specs.Kind.{faces}
use Rattle.table.specs.Table.{face}
use Rattle.cone.proofs.Sides.{Sided}
use Rattle.cone.proofs.raising.cone_record.Given as goal

abbrev pub invariant-loop-j : goal.invariant-loop-j
invariant-loop-j g at = (length at.faces ≡ faces) × Sided (λ l. get_or at.numbers.cones (face at.t at.s l) 0) at.numbers.apex at.j at.faces

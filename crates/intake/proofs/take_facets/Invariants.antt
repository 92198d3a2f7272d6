-- `take_facets` meets its contract. The invariant: the facets at the places below j are taken in. Assumes nothing.
use mathlib.Core.Path.{◌≡◌}
use lib.ListN.{length}
use Rattle.table.specs.Table.{cells_of}
use Rattle.intake.proofs.Facets.{FacetsTo}
use Rattle.intake.proofs.take_facets.Given as goal

abbrev pub invariant-loop-j : goal.invariant-loop-j
invariant-loop-j l = (length l.t ≡ length l.initial.t) × FacetsTo (cells_of l.initial.t) l.initial.t l.c l.before l.t l.m l.j

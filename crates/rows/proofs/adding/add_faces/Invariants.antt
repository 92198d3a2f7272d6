-- `add_faces` meets its contract. The invariant: the faces at the places passed are added. Assumes nothing.
use Rattle.rows.specs.Seen.{seen}
use Rattle.rows.proofs.Places.{PlacesAdded}
use Rattle.rows.proofs.adding.add_faces.Given as goal

abbrev pub invariant-loop-j : goal.invariant-loop-j
invariant-loop-j l = PlacesAdded (seen l.view) l.c l.j l.initial.into l.into

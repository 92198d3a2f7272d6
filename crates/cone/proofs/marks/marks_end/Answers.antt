-- `marks_end` meets its contract: the largest mark is the last, and where there is none, nothing is marked from 0 on. Assumes nothing.
use mathlib.Core.Path.{subst}
use Rattle.bitset.specs.Bits.{LargestIs}
use Rattle.cone.proofs.Searches.{none_marked, last_marked}
use Rattle.cone.proofs.marks.marks_end.Goals as goal

pub returns-in-Some : goal.returns-in-Some
returns-in-Some c = last_marked _ _ (subst (LargestIs _) c.in-Some.is c.largest.ensures)

pub returns-in-None : goal.returns-in-None
returns-in-None c = none_marked _ (subst (LargestIs _) c.in-None.is c.largest.ensures)

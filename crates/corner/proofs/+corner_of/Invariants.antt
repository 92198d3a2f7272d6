-- The measure: the cell's dimension, which is handed on.
use Rattle.corner.proofs.+corner_of.Given as goal

abbrev pub decreases-corner_of : goal.decreases-corner_of
decreases-corner_of l = l.p

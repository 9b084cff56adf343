-- The number of routines left falls.
use Rattle.naming.proofs.+walk_down.Given as goal

abbrev pub decreases-walk_down : goal.decreases-walk_down
decreases-walk_down l = l.left

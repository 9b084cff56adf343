-- `round_robin::pass` meets its contract. Its loop has gone along the edges from k on. Assumes nothing.
use Rattle.round_robin.proofs.SolveLaws.{onward_both, onward_done}
use Rattle.round_robin.proofs.pass.Goals as goal

pub returns-clause-sets : goal.returns-clause-sets
returns-clause-sets c = (onward_done _ (onward_both _ c.loop-k.invariant.1 c.put_first.ensures)).0

pub returns-clause-changed : goal.returns-clause-changed
returns-clause-changed c = (onward_done _ (onward_both _ c.loop-k.invariant.1 c.put_first.ensures)).1

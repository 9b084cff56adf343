-- `naming::is_acyclic` meets its contract. Assumes nothing.
use Rattle.table.specs.Naming.{is_acyclic, reached}
use Rattle.naming.proofs.is_acyclic.Goals as goal

pub returns : goal.returns
unfolding is_acyclic reached
returns c = rw (c.has.ensures, c.walk_down.ensures, c.value_at.ensures)

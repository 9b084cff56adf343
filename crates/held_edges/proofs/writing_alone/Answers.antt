-- `held_edges::writing_alone` meets its contract. Assumes nothing.
use Rattle.held_edges.specs.TableEdges.{writing_alone}
use Rattle.held_edges.proofs.writing_alone.Goals as goal

pub returns-in-Writing : goal.returns-in-Writing
unfolding writing_alone
returns-in-Writing c = rw c.in-Writing.is

pub returns-in-Either : goal.returns-in-Either
unfolding writing_alone
returns-in-Either c = rw c.in-Either.is

-- `edges::list::EdgeList::push_to` meets its contract. Assumes nothing.
use Rattle.edges.specs.Grown.{grown_far}
use Rattle.edges.proofs.list.EdgeList.push_to.Goals as goal

pub returns-in-Some : goal.returns-in-Some
returns-in-Some c = rw c.in-Some.is (grown_far c.saturating_add.ensures c.push.ensures)

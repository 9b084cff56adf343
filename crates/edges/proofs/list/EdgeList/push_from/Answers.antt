-- `edges::list::EdgeList::push_from` meets its contract. Assumes nothing.
use Rattle.edges.proofs.list.EdgeList.push_from.Goals as goal

pub returns-in-Some : goal.returns-in-Some
returns-in-Some c = rw c.in-Some.is c.push.ensures

-- `declarations::handles::same_above_lem` meets its contract. Assumes nothing.
use borrow.Author.Tests.{le-leb, lt-leb}
use Rattle.table.specs.Handles.{same_above}
use Rattle.declarations.proofs.handles.same_above.Goals as goal

pub returns-then-h-k : goal.returns-then-h-k
unfolding same_above
returns-then-h-k c = rw (lt-leb _ _ c.if-h-k.true)

pub returns : goal.returns
unfolding same_above
returns c = rw (le-leb _ _ c.if-h-k.false, c.field_of.ensures.is, c.field_of-2.ensures.is)

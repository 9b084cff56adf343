-- `statements::own_of_kind` meets its contract. Assumes nothing.
use borrow.Author.Tests.{le-ltb, lt-ltb}
use Rattle.table.specs.Statements.{own_of_kind, own_handle}
use Rattle.statements.proofs.own_of_kind.Goals as goal

pub returns-then-field_of-x : goal.returns-then-field_of-x
unfolding own_of_kind own_handle
returns-then-field_of-x c = rw (le-ltb _ _ (rw c.field_of.ensures.is at c.if-field_of-x.true))

pub returns : goal.returns
unfolding own_of_kind own_handle
returns c = rw (lt-ltb _ _ (rw c.field_of.ensures.is at c.if-field_of-x.false), c.field_of-2.ensures.is, c.field_of-3.ensures.is)

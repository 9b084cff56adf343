-- `declarations::header::leading_of` meets its contract. Assumes nothing.
use borrow.Author.Tests.{le-leb, lt-leb}
use Rattle.table.specs.Header.{leading}
use Rattle.declarations.proofs.header.leading_of.Goals as goal

pub returns-then-line-handles : goal.returns-then-line-handles
unfolding leading
returns-then-line-handles c = rw (le-leb _ _ (rw c.field_of-handles.ensures.is at c.if-line-handles.true))

pub returns-then-line-handles-2 : goal.returns-then-line-handles-2
unfolding leading
returns-then-line-handles-2 c = rw (lt-leb _ _ (rw c.field_of-handles.ensures.is at c.if-line-handles.false), le-leb _ _ (rw (c.field_of-handles.ensures.is, c.field_of.ensures.is) at c.if-line-handles-2.true))

pub returns : goal.returns
unfolding leading
returns c = rw (lt-leb _ _ (rw c.field_of-handles.ensures.is at c.if-line-handles.false), lt-leb _ _ (rw (c.field_of-handles.ensures.is, c.field_of.ensures.is) at c.if-line-handles-2.false))

-- `statements::naming_ok` meets its contract. Assumes nothing.
use borrow.Author.Tests.{le-ltb, lt-ltb}
use Rattle.table.specs.Statements.{naming_ok}
use Rattle.statements.proofs.naming_ok.Goals as goal

pub returns-then-field_of-q : goal.returns-then-field_of-q
unfolding naming_ok
returns-then-field_of-q c = rw (le-ltb _ _ (rw (c.field_of-q.ensures.is, c.field_of.ensures.is) at c.if-field_of-q.true))

pub returns : goal.returns
unfolding naming_ok
returns c = rw (lt-ltb _ _ (rw (c.field_of-q.ensures.is, c.field_of.ensures.is) at c.if-field_of-q.false)) (rw (← c.field_of-q.ensures.is) c.arguments_ok.ensures)

-- `attributes::arguments_if` meets its contract. Assumes nothing.
use Rattle.table.specs.Table.{arguments_in}
use Rattle.attributes.proofs.arguments_if.Goals as goal

pub returns-then-test : goal.returns-then-test
unfolding arguments_in
returns-then-test c = rw (c.if-test.true, c.field_of.ensures.is, c.field_of-then-test.ensures.is, c.field_of-then-test-2.ensures.is, c.field_of-then-test-3.ensures.is)

-- `table::arguments_in` meets its contract. Assumes nothing.
use Rattle.table.specs.Table.{arguments_in}
use Rattle.table.proofs.arguments_in.Goals as goal

pub returns : goal.returns
unfolding arguments_in
returns c = rw (c.field_in.ensures.is, c.field_in-2.ensures.is, c.field_in-3.ensures.is, c.field_in-4.ensures.is)

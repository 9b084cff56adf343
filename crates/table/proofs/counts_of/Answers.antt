-- `table::counts_of` meets its contract. Assumes nothing.
use Rattle.table.specs.Table.{counts_of}
use Rattle.table.proofs.counts_of.Goals as goal

pub returns : goal.returns
unfolding counts_of
returns c = rw (c.field_of.ensures.is, c.field_of-2.ensures.is, c.field_of-3.ensures.is, c.field_of-4.ensures.is, c.field_of-5.ensures.is)

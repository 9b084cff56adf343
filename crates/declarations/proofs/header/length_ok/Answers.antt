-- `declarations::header::length_ok` meets its contract. Assumes nothing.
use Rattle.table.specs.Header.{length_ok}
use Rattle.declarations.proofs.header.length_ok.Goals as goal

pub returns : goal.returns
unfolding length_ok
returns c = rw (c.field_of.ensures.is, c.field_of-2.ensures.is, c.field_of-3.ensures.is)

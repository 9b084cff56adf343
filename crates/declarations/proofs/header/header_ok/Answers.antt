-- `declarations::header::header_ok` meets its contract. Assumes nothing.
use Rattle.table.specs.Header.{header_ok}
use Rattle.declarations.proofs.header.header_ok.Goals as goal

pub returns : goal.returns
unfolding header_ok
returns c = rw (c.is_within.ensures, c.is_within-2.ensures, c.is_within-3.ensures, c.is_within-4.ensures, c.is_within-5.ensures, c.is_unused.ensures, c.field_of.ensures.is, c.field_of-2.ensures.is, c.field_of-3.ensures.is, c.field_of-4.ensures.is, c.field_of-5.ensures.is, c.field_of-6.ensures.is)

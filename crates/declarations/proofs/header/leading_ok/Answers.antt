-- `declarations::header::leading_ok` meets its contract. Assumes nothing.
use Rattle.table.specs.Header.{leading_ok}
use Rattle.declarations.proofs.header.leading_ok.Goals as goal

pub returns : goal.returns
unfolding leading_ok
returns c = rw (c.field_of.ensures.is, c.leading_of.ensures)

-- `table::statement_at` meets its contract. Assumes nothing.
use Rattle.table.proofs.statement_at.Goals as goal

pub returns : goal.returns
returns c = rw (← c.field_in.ensures.is) c.statement_in.ensures

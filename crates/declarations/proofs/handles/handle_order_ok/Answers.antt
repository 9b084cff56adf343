-- `declarations::handles::handle_order_ok` meets its contract. Assumes nothing.
use Rattle.table.specs.Handles.{handle_order_ok}
use Rattle.declarations.proofs.handles.handle_order_ok.Goals as goal

pub returns : goal.returns
unfolding handle_order_ok
returns c = rw (c.field_of.ensures.is, c.field_of-2.ensures.is, c.same_above.ensures, c.saturating_sub-before.ensures)

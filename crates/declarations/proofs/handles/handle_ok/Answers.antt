-- `declarations::handles::handle_ok` meets its contract. Assumes nothing.
use Rattle.table.specs.Handles.{handle_ok}
use Rattle.declarations.proofs.handles.handle_ok.Goals as goal

pub returns : goal.returns
unfolding handle_ok
returns c = rw (c.handle_fields_ok.ensures, c.handle_order_ok.ensures, c.parameter_ok.ensures)

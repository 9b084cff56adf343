-- `declarations::handles::handle_fields_ok` meets its contract. Assumes nothing.
use Rattle.table.specs.Handles.{handle_fields_ok}
use Rattle.declarations.proofs.handles.handle_fields_ok.Goals as goal

pub returns : goal.returns
unfolding handle_fields_ok
returns c = rw (c.is_within.ensures, c.things_of.ensures, c.is_unused.ensures, c.field_of-kind.ensures.is, c.field_of-origin.ensures.is, c.field_of-start.ensures.is, c.field_of.ensures.is, c.field_of-2.ensures.is)

-- `declarations::handles::parameter_ok` meets its contract. Assumes nothing.
use Rattle.table.specs.Handles.{parameter_ok}
use Rattle.declarations.proofs.handles.parameter_ok.Goals as goal

pub returns : goal.returns
unfolding parameter_ok
returns c = rw (c.field_of.ensures.is, c.field_of-2.ensures.is, c.same_above.ensures, c.field_of-3.ensures.is, c.same_above-2.ensures, c.saturating_sub-before.ensures)

-- `declarations::routines::routine_ok` meets its contract. Assumes nothing.
use Rattle.table.specs.Routines.{routine_ok}
use Rattle.declarations.proofs.routines.routine_ok.Goals as goal

pub returns : goal.returns
unfolding routine_ok
returns c = rw (c.is_within.ensures, c.count_at.ensures.is, c.is_unused.ensures, c.field_of.ensures.is, c.field_of-2.ensures.is)

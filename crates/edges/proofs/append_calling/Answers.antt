-- `edges::append_calling` meets its contract. Assumes nothing.
use Rattle.declarations.specs.Laid.{laid_for}
use Rattle.edges.specs.RoomLaws.{callers_asked}
use Rattle.edges.proofs.append_calling.Goals as goal

pub append_callers-requires-clause-end_value : goal.append_callers-requires-clause-end_value
append_callers-requires-clause-end_value c =
    callers_asked c.program.view_is (laid_for c.program.view_is c.program.invariant).accepted _ c.statements.ensures.is c.statements.ensures.few c.requires.1

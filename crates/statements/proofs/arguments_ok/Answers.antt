-- `statements::arguments_ok` meets its contract. Assumes nothing.
use Rattle.table.specs.Statements.{arguments_ok}
use Rattle.statements.proofs.arguments_ok.Goals as goal

pub returns : goal.returns
unfolding arguments_ok
returns c = rw (c.argument_ok.ensures, c.argument_ok-2.ensures, c.argument_ok-3.ensures, c.argument_ok-4.ensures, c.is_unused.ensures)

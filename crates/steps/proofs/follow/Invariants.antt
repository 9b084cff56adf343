-- `steps::follow` meets its contract. Assumes nothing.
use Rattle.table.specs.Table.{table_of}
use Rattle.steps.specs.RunLaws.{Following}
use Rattle.steps.proofs.follow.Given as goal

abbrev pub invariant-loop-i : goal.invariant-loop-i
invariant-loop-i l = Following (table_of l.loaded.program) l.schedule l.initial.answers l.initial.state l.answers l.state l.i

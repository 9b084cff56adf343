-- `lockset::turn_round` meets its contract. Its loop has turned round the sets before it. Assumes nothing.
use Rattle.table.proofs.TabulateLaws.{Rewritten}
use Rattle.report.specs.Greatest.{leaving}
use Rattle.lockset.proofs.turn_round.Given as goal

abbrev pub invariant-loop-set : goal.invariant-loop-set
invariant-loop-set l = Rewritten (leaving l.all l.initial.sets) l.initial.sets l.sets l.set-index

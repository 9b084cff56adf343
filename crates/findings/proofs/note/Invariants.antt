-- `findings::note` meets its contract. Assumes nothing.
use Rattle.findings.specs.NoteLaws.{Marking}
use Rattle.sets.specs.Set.{count}
use Rattle.findings.proofs.note.Given as goal

abbrev pub invariant-loop-x : goal.invariant-loop-x
invariant-loop-x l = Marking l.cells l.held l.initial.common l.common l.initial.counts l.counts l.rest

abbrev pub decreases-loop-x : goal.decreases-loop-x
decreases-loop-x l = count l.rest

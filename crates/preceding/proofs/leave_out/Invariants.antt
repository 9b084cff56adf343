-- `preceding::leave_out` meets its contract. Its loop has gone through the statements below s. Assumes nothing.
use Rattle.preceding.specs.LeaveLaws.{Leaving}
use Rattle.preceding.proofs.leave_out.Given as goal

abbrev pub invariant-loop-s : goal.invariant-loop-s
invariant-loop-s l = Leaving l.program l.initial.work l.work l.c l.s

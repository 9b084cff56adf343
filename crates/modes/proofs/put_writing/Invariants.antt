-- `modes::put_writing` meets its contract. Its loop has put the sets below s. Assumes nothing.
use Rattle.table.proofs.TabulateLaws.{Rewritten}
use Rattle.modes.specs.ModeLoops.{way}
use Rattle.modes.proofs.put_writing.Given as goal

abbrev pub invariant-loop-s : goal.invariant-loop-s
invariant-loop-s l = Rewritten (way l.numbers l.initial.work) l.initial.work l.work l.s

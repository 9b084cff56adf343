-- `future::spread` meets its contract. Its loop has gone through the statements below s. Assumes nothing.
use Rattle.future.specs.SpreadLaws.{Spreading}
use Rattle.future.proofs.spread.Given as goal

abbrev pub invariant-loop-s : goal.invariant-loop-s
invariant-loop-s l = Spreading l.program l.initial.out l.out l.c l.s

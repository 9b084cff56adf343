-- `run_printer::Tail::put_answers` meets its contract. Assumes nothing.
use Rattle.std.proofs.Common.{rules, w32, to_z-of_z}
use Rattle.run_printer.specs.Words.{answers_text}
use Rattle.run_printer.proofs.WordsLaws.{backing_start, backing_next, backing_done}
use Rattle.run_printer.proofs.Tail.put_answers.Goals as goal

pub loop-i-init : goal.loop-i-init
loop-i-init c = backing_start _ _ _

pub loop-i-preserved : goal.loop-i-preserved
loop-i-preserved c = backing_next _ _ _ 0 c.loop-i.invariant c.loop-i-test.true (rw (to_z-of_z {w = w32} {z = c.from.result} (search rules), c.from.ensures) at c.put_number.ensures)

pub returns : goal.returns
unfolding answers_text
returns c = backing_done _ _ _ c.loop-i.invariant c.loop-i-test.false

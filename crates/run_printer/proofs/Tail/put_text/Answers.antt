-- `run_printer::Tail::put_text` meets its contract. Assumes nothing.
use Rattle.run_printer.proofs.WordsLaws.{backing_start, backing_next, backing_done, bytes_text}
use Rattle.run_printer.proofs.Tail.put_text.Goals as goal

pub loop-i-init : goal.loop-i-init
loop-i-init c = backing_start _ _ _

pub loop-i-preserved : goal.loop-i-preserved
loop-i-preserved c = backing_next _ _ _ 0 c.loop-i.invariant c.loop-i-test.true c.put_byte.ensures

pub returns : goal.returns
returns c = rw (bytes_text 0 c.args.text.now) at (backing_done _ _ _ c.loop-i.invariant c.loop-i-test.false)

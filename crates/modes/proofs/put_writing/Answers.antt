-- `modes::put_writing` meets its contract. Its loop has put the sets below s. Assumes nothing.
use Rattle.std.proofs.Common.{arith}
use Rattle.modes.specs.ModeLoops.{way_done}
use Rattle.modes.proofs.put_writing.Goals as goal

pub returns : goal.returns
returns c = way_done c.args.numbers.now c.loop-s.invariant (omega (arith, c.loop-s-test.false, c.field_of-count.ensures.is)) (omega (arith, c.requires))

-- `future::spread` meets its contract. Its loop has gone through the statements below s. Assumes nothing.
use Rattle.std.proofs.Common.{arith}
use Rattle.future.specs.SpreadLaws.{spreading_start, spreading_done}
use Rattle.future.proofs.spread.Goals as goal

pub loop-s-init : goal.loop-s-init
loop-s-init c = spreading_start _ c.statements-end.ensures.accepted c.requires

pub returns : goal.returns
returns c = spreading_done c.loop-s.invariant (omega (arith, c.statements-end.ensures.is, c.loop-s-test.false))

-- `lockset::turn_round` meets its contract. Its loop has turned round the sets before it. Assumes nothing.
use native.Mathlib.Omega.{arith}
use Rattle.lockset.specs.SettleLaws.{turned_next, turned_done}
use Rattle.lockset.proofs.turn_round.Goals as goal

pub loop-set-preserved : goal.loop-set-preserved
loop-set-preserved c = turned_next _ _ c.loop-set.invariant (omega (arith, c.loop-set-test.true, c.loop-set.invariant.filled.long)) c.difference.ensures

pub returns : goal.returns
returns c = turned_done _ _ c.loop-set.invariant (omega (arith, c.loop-set-test.false, c.loop-set.invariant.filled.long))

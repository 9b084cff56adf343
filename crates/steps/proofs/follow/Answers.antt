-- `steps::follow` meets its contract. Assumes nothing.
use Rattle.steps.specs.RunLaws.{following_next, following_done}
use Rattle.steps.proofs.follow.Goals as goal

pub loop-i-preserved : goal.loop-i-preserved
loop-i-preserved c = following_next _ _ _ _ _ _ _ c.loop-i.invariant _ _ _ _ c.loop-i-test.true c.from-n.ensures c.step-answer.ensures c.answer_byte.ensures

pub returns : goal.returns
returns c = following_done _ _ _ _ _ _ _ c.loop-i.invariant c.loop-i-test.false

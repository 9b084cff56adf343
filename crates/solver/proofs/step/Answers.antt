-- `solver::step` meets its contract. Assumes nothing.
use Rattle.passes.specs.PassLaws.{pass_step, worklist_step}
use Rattle.solver.proofs.step.Goals as goal

pub returns-then-turn-last : goal.returns-then-turn-last
returns-then-turn-last c = worklist_step _ _ c.if-changed.true (pass_step _ _ c.pass-changed.ensures) c.follow.ensures

pub returns-else-changed : goal.returns-else-changed
returns-else-changed c = pass_step _ _ c.pass-changed.ensures

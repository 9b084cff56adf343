-- `solver::worklist::follow` meets its contract. Assumes nothing.
use Rattle.passes.specs.PassLaws.{solving_start}
use Rattle.solver.proofs.worklist.follow.Goals as goal

pub returns-else-places-le1024 : goal.returns-else-places-le1024
returns-else-places-le1024 c = solving_start _ _ _

-- `solver::worklist::follow_edge` meets its contract. Assumes nothing.
use native.Mathlib.Omega.{arith}
use Rattle.passes.specs.PassLaws.{solving_start, solving_put}
use Rattle.solver.proofs.worklist.follow_edge.Goals as goal

pub returns-then-k-len : goal.returns-then-k-len
returns-then-k-len c = solving_put _ _ _ (omega arith) (solving_start _ _ _) c.put_edge-changed.ensures

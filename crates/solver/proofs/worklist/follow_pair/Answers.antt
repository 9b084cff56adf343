-- `solver::worklist::follow_pair` meets its contract. Assumes nothing.
use Rattle.passes.specs.PassLaws.{solving_both}
use Rattle.solver.proofs.worklist.follow_pair.Goals as goal

pub returns-then-k-edges : goal.returns-then-k-edges
returns-then-k-edges c = solving_both _ _ c.follow_edge.ensures c.follow_edge-then-k-edges.ensures

-- `solver::worklist::follow_places` meets its contract. Its loop has gone along some edges. Assumes nothing.
use Rattle.passes.specs.PassLaws.{solving_start}
use borrow.Author.Rules.{rules}
use Rattle.solver.proofs.worklist.follow_places.Goals as goal

pub loop-init : goal.loop-init
loop-init c = (search rules, search rules, solving_start _ _ _)

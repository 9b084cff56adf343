-- `solver::solve_plain` meets its contract. Assumes nothing.
use mathlib.Core.Path.{◌∙◌}
use Rattle.sets.proofs.LeastLaws.{least_plain}
use Rattle.solver.proofs.solve_plain.Goals as goal

pub returns : goal.returns
returns c = c.solve.ensures ∙ least_plain c.args.edges.now c.args.sets.now

-- `solver::solve` meets its contract. Whatever the order, the list stays between the start and the least list, and at the end it is closed. Assumes nothing.
use Prim.Native.Nat.{◌<◌}
use Rattle.std.specs.Prelude.{true}
use Rattle.sets.specs.Least.{room}
use Rattle.passes.specs.Pass.{Solving}
use Rattle.solver.proofs.solve.Given as goal

abbrev pub invariant-passes : goal.invariant-passes
invariant-passes l = (l.turn < 8) × Solving l.edges l.also l.initial.sets l.sets true

abbrev pub decreases-passes : goal.decreases-passes
decreases-passes l = room l.sets

-- `solver::worklist::follow_places` meets its contract. Its loop has gone along some edges. Assumes nothing.
use Prim.Native.Nat.{◌<◌, ◌≤◌}
use mathlib.Core.Bool.{true}
use Rattle.passes.specs.Pass.{Solving}
use Rattle.solver.proofs.worklist.follow_places.Given as goal

abbrev pub invariant-loop : goal.invariant-loop
invariant-loop l = (l.i < 16) × (l.idle ≤ 16) × Solving l.edges.ends.now l.edges.also.now l.initial.sets l.sets true

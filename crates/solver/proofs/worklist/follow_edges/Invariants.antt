-- `solver::worklist::follow_edges` meets its contract. Its loop has gone along some edges, and each next one comes later. Assumes nothing.
use Prim.Native.Nat.{◌-◌, ◌^◌}
use Rattle.std.specs.Prelude.{true, Some, None}
use Rattle.passes.specs.Pass.{Solving}
use Rattle.solver.proofs.worklist.follow_edges.Given as goal

abbrev pub invariant-loop-next : goal.invariant-loop-next
invariant-loop-next l = Solving l.edges.ends.now l.edges.also.now l.initial.sets l.sets true

abbrev pub decreases-loop-next : goal.decreases-loop-next
decreases-loop-next l = elim l.next [ None ↦ 0 | Some k ↦ 2 ^ 64 - k ]

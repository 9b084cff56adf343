-- `passes::pass_up` meets its contract. Its loop has gone along the first i pairs of edges. Assumes nothing.
use Prim.Native.Nat.{◌*◌}
use Rattle.passes.specs.Pass.{Passed}
use Rattle.passes.proofs.pass_up.Given as goal

abbrev pub invariant-loop-i : goal.invariant-loop-i
invariant-loop-i l = Passed l.edges.ends.now l.edges.also.now l.initial.sets l.sets l.changed 0 (2 * l.i)

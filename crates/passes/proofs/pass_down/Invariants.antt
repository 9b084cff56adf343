-- `passes::pass_down` meets its contract. Its loop has gone along all edges but the first i pairs. Assumes nothing.
use Prim.Native.Nat.{◌*◌}
use lib.ListN.{length}
use Rattle.passes.specs.Pass.{Passed}
use Rattle.passes.proofs.pass_down.Given as goal

abbrev pub invariant-loop-i : goal.invariant-loop-i
invariant-loop-i l = Passed l.edges.ends.now l.edges.also.now l.fn.sets l.sets l.changed (2 * l.i) (length l.edges.ends.now)

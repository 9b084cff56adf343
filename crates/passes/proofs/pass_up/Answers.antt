-- `passes::pass_up` meets its contract. Its loop has gone along the first i pairs of edges. Assumes nothing.
use Prim.Native.Nat.{◌*◌, ◌-◌}
use mathlib.Core.Path.{refl}
use native.Mathlib.Omega.{arith}
use Rattle.passes.specs.PassLaws.{passed_as, passed_up, passed_up_two}
use Rattle.passes.proofs.pass_up.Goals as goal

pub loop-i-preserved : goal.loop-i-preserved
loop-i-preserved c =
    passed_as _ _ refl (omega arith)
    (passed_up_two _ _ (2 * c.loop-i.i) (omega arith) c.loop-i.invariant c.put_edge-changed.ensures c.put_edge-changed-in-loop-i.ensures)

pub returns-then-n-eq1 : goal.returns-then-n-eq1
returns-then-n-eq1 c =
    passed_as _ _ refl (omega arith)
    (passed_up _ _ (c.len-n.result - 1) (omega arith) (passed_as _ _ refl (omega arith) c.loop-i.invariant) c.put_edge.ensures)

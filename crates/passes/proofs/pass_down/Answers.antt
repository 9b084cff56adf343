-- `passes::pass_down` meets its contract. Its loop has gone along all edges but the first i pairs. Assumes nothing.
use Prim.Native.Nat.{◌+◌, ◌*◌, ◌-◌}
use lib.ListN.{length}
use mathlib.Core.Path.{◌≡◌, refl}
use native.Mathlib.Omega.{arith}
use Rattle.passes.specs.PassLaws.{passed_start, passed_as, passed_down, passed_down_two}
use Rattle.passes.proofs.pass_down.Goals.{then-n-eq1, else-n-eq1}
use Rattle.passes.proofs.pass_down.Goals as goal

pub loop-i-init : goal.loop-i-init
loop-i-init c =
    elim c.if-n-eq1.branch [
      | then-n-eq1 w ↦
          rw (w.sets-is, w.changed-is)
          (passed_as _ _ (omega arith) refl
          (passed_down _ _ (c.len-n.result - 1) (omega arith) (passed_start _ _ _ (c.len-n.result - 1 + 1) (length c.args.edges.ends.now) (omega arith)) w.put_edge-changed.ensures))
      | else-n-eq1 w ↦ rw (w.sets-is, w.changed-is) (passed_start _ _ _ _ _ (omega arith))
    ]

pub loop-i-preserved : goal.loop-i-preserved
loop-i-preserved c =
    let e : 2 * (c.loop-i.i - 1) + 1 ≡ 2 * c.loop-i.i - 1 = omega arith in
    let e₂ : 2 * (c.loop-i.i - 1) ≡ 2 * c.loop-i.i - 2 = omega arith in
    rw e₂
    (passed_down_two _ _ (2 * c.loop-i.i) (omega arith) (omega arith) c.loop-i.invariant (rw e at c.put_edge-changed-in-loop-i.ensures)
    (rw e₂ at c.put_edge-changed-in-loop-i-2.ensures))

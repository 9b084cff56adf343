-- `round_robin::put_first` meets its contract. Its loop has gone along the edges from k on. Assumes nothing.
use Prim.Native.Nat.{◌-◌}
use native.Mathlib.Omega.{arith}
use Rattle.round_robin.proofs.SolveLaws.{ends_in_lem, onward_next}
use Rattle.round_robin.proofs.put_first.Goals as goal

pub put-after-requires : goal.put-after-requires
put-after-requires c = ends_in_lem c.loop-k.invariant.1.places c.args.edges.now (c.loop-k.k - 1) c.requires.among (omega (arith, c.loop-k.invariant.0))

pub loop-k-preserved : goal.loop-k-preserved
loop-k-preserved c = (omega (arith, c.loop-k.invariant.0), onward_next _ _ (omega arith) c.loop-k.invariant.1 c.put-after.ensures)

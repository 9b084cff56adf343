-- `stages::with_flow` meets its contract. Assumes nothing.
use native.Mathlib.Omega.{arith}
use Rattle.stages.proofs.with_flow.Goals as goal

pub own_holds-requires : goal.own_holds-requires
own_holds-requires c =
    record { flow_value = c.args.solved.now.flow_is; numbers_in_bounds = c.requires.lent.edges_long; numbers_in_bounds_2 = c.requires.lent.places_long }

pub with_held-requires : goal.with_held-requires
with_held-requires c =
    record { work_value = c.own_holds.ensures; numbers_in_bounds = omega (arith, c.requires.lent.work_long, c.own_holds.auto.work); numbers_in_bounds_2 = omega (arith, c.requires.lent.edges_long, c.own_holds.auto.edges) }

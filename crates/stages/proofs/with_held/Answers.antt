-- `stages::with_held` meets its contract. Assumes nothing.
use mathlib.Core.Path.{◌∙◌}
use native.Mathlib.Omega.{arith}
use Rattle.stages.specs.SetsLaws.{later_long, later_put}
use Rattle.stages.proofs.with_held.Goals as goal

pub shared_of-shared-requires : goal.shared_of-shared-requires
shared_of-shared-requires c =
    record { later_len = later_long c.args.solved.now.program.now c.args.work.now _ _ (c.statements-count.ensures.is) c.routines.ensures.is c.requires.numbers_in_bounds; numbers_in_bounds = c.requires.numbers_in_bounds_2 }

pub with_shared-requires : goal.with_shared-requires
with_shared-requires c =
    let kept = later_put c.args.solved.now.program.now c.args.work.now _ _ (c.statements-count.ensures.is) c.routines.ensures.is c.requires.numbers_in_bounds c.statements-count.ensures.accepted c.shared_of-shared.new.later c.shared_of-shared.auto.later in
    record { work_value = kept.0 ∙ c.requires.work_value; shared_value = c.shared_of-shared.ensures; numbers_in_bounds = kept.1; numbers_in_bounds_2 = omega (arith, c.requires.numbers_in_bounds_2, c.shared_of-shared.auto.edges) }

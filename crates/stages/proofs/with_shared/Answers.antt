-- `stages::with_shared` meets its contract. Assumes nothing.
use mathlib.Core.Path.{◌∙◌}
use native.Mathlib.Omega.{arith}
use Rattle.stages.specs.SetsLaws.{counted_known}
use Rattle.stages.proofs.with_shared.Goals as goal

pub print_found-requires : goal.print_found-requires
print_found-requires c =
    record { work_value = c.counted_holds.ensures.before ∙ c.requires.work_value; work_value_2 = counted_known c.args.solved.now.program.now c.args.work.now _ c.requires.work_value c.counted_holds.ensures.behind; numbers_in_bounds = omega (arith, c.requires.numbers_in_bounds, c.counted_holds.auto.work); shared_value = c.requires.shared_value }

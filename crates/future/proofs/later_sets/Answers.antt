-- `future::later_sets` meets its contract: what each stage leaves, the next begins with. Assumes nothing.
use Rattle.std.proofs.Common.{ap, ◌∙◌}
use Rattle.sets.specs.Least.{least}
use Rattle.future.specs.StageLaws.{spread}
use Rattle.future.proofs.later_sets.Goals as goal

pub returns : goal.returns
returns c = c.spread.ensures ∙ ap (spread _ _ _) (c.solve_plain-2.ensures ∙ ap (least _) (c.solve_plain.ensures ∙ ap (least _) c.fill_future.ensures))

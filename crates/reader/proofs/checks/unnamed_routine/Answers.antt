-- `reader::checks::unnamed_routine` meets its contract. Assumes nothing.
use Rattle.std.specs.Prelude.{Option}
use Rattle.std.proofs.Common.{ap, ◌∙◌, rules, of_calls, ℕ, ◌-◌}
use Rattle.table.specs.Found.{below}
use Rattle.table.proofs.FoundLaws.{failing_is}
use Rattle.sets.specs.Set.{has}
use Rattle.reader.specs.SearchLaws.{named_by_all}
use Rattle.reader.proofs.checks.unnamed_routine.Goals as goal

pub returns : goal.returns
returns c =
    failing_is (has c.all_named-all.result) 1 c.args.count _ (λ k b a h s. search (rules, of_calls)) c.first_failing.result c.first_failing.ensures
    ∙ ap {B = Option ℕ} (λ i. below i c.args.count) (named_by_all c.args.names.now c.all_named-all.result (c.args.count - 1) c.all_named-all.ensures)

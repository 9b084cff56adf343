-- `table::is_unused` meets its contract. Assumes nothing.
use Rattle.std.proofs.Common.{rules, of_calls}
use Rattle.table.specs.Fields.{is_zero, unused}
use Rattle.table.proofs.FoundLaws.{failing_is, none_below}
use Rattle.table.proofs.is_unused.Goals as goal

pub returns : goal.returns
unfolding unused
returns c =
    none_below _ 8 c.is_none.result
    (failing_is (is_zero c.args.numbers.now c.args.line) c.args.from 8 _ (λ k b a h s. search (rules, of_calls)) c.first_failing.result c.first_failing.ensures)
    c.is_none.ensures

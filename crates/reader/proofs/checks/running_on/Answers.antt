-- `reader::checks::running_on` meets its contract. Assumes nothing.
use Rattle.std.proofs.Common.{rules, of_calls}
use Rattle.table.proofs.FoundLaws.{failing_from_zero}
use Rattle.table.specs.Statements.{end_ok}
use Rattle.reader.proofs.checks.running_on.Goals as goal

pub returns : goal.returns
returns c =
    rw c.field_of.ensures.is at
    (failing_from_zero (end_ok c.args.outline.now.numbers.now) c.field_of.result _ (λ k b h s. search (rules, of_calls)) c.first_failing.result c.first_failing.ensures)

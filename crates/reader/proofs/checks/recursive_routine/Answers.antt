-- `reader::checks::recursive_routine` meets its contract. Assumes nothing.
use Rattle.std.proofs.Common.{rules, of_calls}
use Rattle.table.proofs.FoundLaws.{failing_from_zero}
use Rattle.table.specs.Naming.{is_acyclic}
use Rattle.reader.proofs.checks.recursive_routine.Goals as goal

pub returns : goal.returns
returns c = failing_from_zero (is_acyclic c.args.names.now) c.args.count _ (λ k b h s. search (rules, of_calls)) c.first_failing.result c.first_failing.ensures

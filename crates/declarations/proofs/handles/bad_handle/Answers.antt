-- `declarations::handles::bad_handle` meets its contract. Assumes nothing.
use Rattle.std.proofs.Common.{rules, of_calls}
use Rattle.table.specs.Handles.{handle_ok}
use Rattle.table.proofs.FoundLaws.{failing_from_zero}
use Rattle.declarations.proofs.handles.bad_handle.Goals as goal

pub returns : goal.returns
returns c = let u = failing_from_zero (handle_ok c.args.numbers.now) c.field_of.result _ (λ k b h s. search (rules, of_calls)) c.first_failing.result c.first_failing.ensures in rw c.field_of.ensures.is at u

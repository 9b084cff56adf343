-- `declarations::routines::bad_routine` meets its contract. Assumes nothing.
use Rattle.std.proofs.Common.{rules, of_calls}
use Rattle.table.specs.Routines.{routine_ok}
use Rattle.table.proofs.FoundLaws.{failing_from_zero}
use Rattle.declarations.proofs.routines.bad_routine.Goals as goal

pub returns : goal.returns
returns c =
    let u = failing_from_zero (routine_ok c.args.numbers.now) c.field_of.result _ (λ k b h s. search (rules, of_calls)) c.first_failing.result c.first_failing.ensures in
    rw c.field_of.ensures.is at u

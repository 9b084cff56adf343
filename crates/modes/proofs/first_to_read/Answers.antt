-- `modes::first_to_read` meets its contract. Assumes nothing.
use Rattle.std.proofs.Common.{rules, of_calls}
use Rattle.table.proofs.FoundLaws.{failing_from_zero}
use Rattle.modes.specs.Modes.{takes_to_write_alone}
use Rattle.modes.proofs.first_to_read.Goals as goal

pub returns : goal.returns
returns c =
    let u = failing_from_zero (takes_to_write_alone c.args.numbers.now) c.field_of.result _ (λ k b h s. search (rules, of_calls)) c.first_failing.result c.first_failing.ensures in
    rw c.field_of.ensures.is at u

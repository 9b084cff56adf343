-- `own_holds::both_holds` meets its contract. Assumes nothing.
use Rattle.table.proofs.FoundLaws.{none_found}
use Rattle.own_holds.specs.OwnLaws.{one_mode, both_held}
use Rattle.own_holds.proofs.both_holds.Goals as goal

pub returns-then-is_some : goal.returns-then-is_some
returns-then-is_some c = both_held c.args.program.now _ _ _ _ c.either_holds.ensures c.add_writing.ensures

pub returns-else-is_some : goal.returns-else-is_some
returns-else-is_some c =
    one_mode c.args.program.now c.args.flow.now c.args.given.now _ (none_found _ _ _ (rw c.program.view_is at c.first_to_read.ensures) c.if-is_some.ensures) c.either_holds.ensures

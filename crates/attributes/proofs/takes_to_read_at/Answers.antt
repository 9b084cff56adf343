-- `attributes::takes_to_read_at` meets its contract. Assumes nothing.
use mathlib.Core.Path.{sym}
use Rattle.table.proofs.ViewLaws.{takes_to_read_in}
use Rattle.attributes.proofs.takes_to_read_at.Goals as goal

pub returns : goal.returns
returns c = rw c.field_of.ensures.is (sym (takes_to_read_in _ _ _))

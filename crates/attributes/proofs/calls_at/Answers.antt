-- `attributes::calls_at` meets its contract. Assumes nothing.
use mathlib.Core.Path.{sym}
use Rattle.table.proofs.ViewLaws.{calls_in}
use Rattle.attributes.proofs.calls_at.Goals as goal

pub returns : goal.returns
returns c = rw (c.first_if.ensures, c.field_of.ensures.is) (sym (calls_in _ _ _))

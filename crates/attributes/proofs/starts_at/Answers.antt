-- `attributes::starts_at` meets its contract. Assumes nothing.
use mathlib.Core.Path.{sym}
use Rattle.table.proofs.ViewLaws.{starts_in}
use Rattle.attributes.proofs.starts_at.Goals as goal

pub returns : goal.returns
returns c = rw (c.first_if.ensures, c.field_of.ensures.is) (sym (starts_in _ _ _))

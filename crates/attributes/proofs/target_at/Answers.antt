-- `attributes::target_at` meets its contract. Assumes nothing.
use mathlib.Core.Path.{sym, ap}
use Rattle.table.specs.declared.View.{View}
use Rattle.table.proofs.ViewLaws.{view_in_lem}
use Rattle.attributes.proofs.target_at.Goals as goal

pub returns : goal.returns
returns c = rw (c.first_if.ensures, c.field_of-op.ensures.is) (sym (ap (λ (v : View). v.target) (view_in_lem _ _ _)))

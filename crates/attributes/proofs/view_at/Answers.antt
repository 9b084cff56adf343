-- `attributes::view_at` meets its contract. Assumes nothing.
use mathlib.Core.Path.{sym}
use Rattle.table.proofs.ViewLaws.{view_in_mode}
use Rattle.attributes.proofs.view_at.Goals as goal

pub returns : goal.returns
returns c = rw (c.first_if.ensures, c.first_if-2.ensures, c.first_if-3.ensures, c.first_if-4.ensures, c.first_if-5.ensures, c.first_if-6.ensures, c.second_if.ensures, c.first_if-7.ensures, c.arguments_if.ensures, c.field_of-op.ensures.is) (sym (view_in_mode _ _ _ c.args.writing))

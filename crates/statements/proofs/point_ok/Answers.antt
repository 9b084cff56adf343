-- `statements::point_ok` meets its contract. Assumes nothing.
use Rattle.table.specs.Statements.{point_ok}
use Rattle.statements.proofs.point_ok.Goals as goal

pub returns : goal.returns
unfolding point_ok
returns c = rw (c.own_handle.ensures, c.own_of_kind.ensures, c.is_unused.ensures, c.field_of.ensures.is, c.field_of-2.ensures.is, c.field_of-a.ensures.is)

-- `declarations::handles::things_of` meets its contract. Assumes nothing.
use borrow.Author.Tests.{eq-eqb, ne_eqb}
use Rattle.table.specs.Handles.{things}
use Rattle.declarations.proofs.handles.things_of.Goals as goal

pub returns-then-kind-eq1 : goal.returns-then-kind-eq1
unfolding things
returns-then-kind-eq1 c = rw (eq-eqb _ _ c.if-kind-eq1.true, c.field_of.ensures.is)

pub returns : goal.returns
unfolding things
returns c = rw (ne_eqb _ _ c.if-kind-eq1.false, c.field_of-2.ensures.is)

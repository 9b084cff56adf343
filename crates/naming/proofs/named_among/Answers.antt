-- `naming::named_among` meets its contract. Assumes nothing.
use Rattle.naming.specs.GatherLaws.{gathering_next, gathering_done}
use Rattle.naming.proofs.named_among.Goals as goal

pub loop-s-preserved : goal.loop-s-preserved
loop-s-preserved c = rw (c.union-named.ensures, c.named_by.ensures) (gathering_next _ _ _ _ _ c.loop-s.invariant c.loop-s-test.true)

pub returns : goal.returns
returns c = gathering_done _ _ _ _ _ c.loop-s.invariant c.loop-s-test.false

-- `edges::append_each` meets its contract. Assumes nothing.
use Rattle.std.proofs.Common.{arith}
use Rattle.edges.specs.Grown.{growing_start, growing_next, growing_over}
use Rattle.edges.specs.RoutineLaws.{near_start}
use Rattle.edges.proofs.append_each.Goals as goal

pub loop-s-init : goal.loop-s-init
loop-s-init g c = ((λ part h. growing_start _ _), near_start _ c.statements-s-end.ensures.accepted)

pub loop-s-preserved : goal.loop-s-preserved
loop-s-preserved g c = ((λ part h. growing_next (c.loop-s.invariant.0 part h) c.loop-s-test.true (h _ _ _ _ (omega (arith, c.statements-s-end.ensures.is, c.loop-s-test.true)) c.owner_of-c.ensures.is c.append.ensures)), c.owner_of-c.ensures.near)

pub returns : goal.returns
returns g c = record {
  accepted = c.statements-s-end.ensures.accepted;
  grown = λ part h. growing_over c.statements-s-end.ensures.is (c.loop-s.invariant.0 part h) c.loop-s-test.false;
}

-- `initial::unite_each` meets its contract. Assumes nothing.
use Rattle.std.proofs.Common.{arith}
use Rattle.initial.specs.UnionLaws.{uniting_start, uniting_next, uniting_done}
use Rattle.initial.proofs.unite_each.Goals as goal

pub loop-s-init : goal.loop-s-init
loop-s-init g c = λ at h. uniting_start _ _ _

pub loop-s-preserved : goal.loop-s-preserved
loop-s-preserved g c = λ at h. uniting_next (c.loop-s.invariant at h) c.loop-s-test.true (h _ _ (omega arith) (omega arith) c.value.ensures) c.union-all.ensures

pub returns : goal.returns
returns g c = λ at h. uniting_done (c.loop-s.invariant at h) c.loop-s-test.false

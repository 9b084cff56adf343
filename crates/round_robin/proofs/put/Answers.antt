-- `round_robin::put` meets its contract. Assumes nothing.
use native.Mathlib.Omega.{arith}
use borrow.Author.Rules.{rules}
use Rattle.sets.specs.Least.{edge_of}
use Rattle.passes.specs.PassLaws.{put_as}
use Rattle.round_robin.proofs.SolveLaws.{plain_nothing, plain_more}
use Rattle.round_robin.proofs.put.Goals as goal

pub returns-then-new-old : goal.returns-then-new-old
unfolding edge_of
returns-then-new-old c = put_as c.from_of-f.ensures c.from_of-f.ensures c.to_of-t.ensures (plain_more _ _ _ _ (omega arith) (λ i. search rules) c.if-new-old.true)

pub returns : goal.returns
unfolding edge_of
returns c = put_as c.from_of-f.ensures c.from_of-f.ensures c.to_of-t.ensures (plain_nothing _ _ _ _ c.if-new-old.false)

-- `passes::put_along` meets its contract. Each way through it is one law of `PassLaws`. Assumes nothing.
use borrow.Author.Rules.{rules}
use Rattle.passes.specs.PassLaws.{put_more, put_nothing, put_no_from, put_no_also, put_no_to}
use Rattle.passes.proofs.put_along.Goals.{else-f-sets-via-then-f-sets+else-a-sets, else-f-sets-via-else-f-sets}
use Rattle.passes.proofs.put_along.Goals as goal

pub returns-then-new-old : goal.returns-then-new-old
returns-then-new-old c = put_more _ _ _ c.args.sets.now _ c.if-t-sets.true (λ i. search rules) c.if-new-old.true

pub returns-else-new-old : goal.returns-else-new-old
returns-else-new-old c = put_nothing _ _ _ _ _ c.if-new-old.false

pub returns-else-f-sets : goal.returns-else-f-sets
returns-else-f-sets c = elim c.else-f-sets.branch [
  | else-f-sets-via-then-f-sets+else-a-sets w ↦ put_no_also _ _ _ _ _ w.if-a-sets.false
  | else-f-sets-via-else-f-sets w ↦ put_no_from _ _ _ _ _ w.if-f-sets.false
]

pub returns-else-t-sets : goal.returns-else-t-sets
returns-else-t-sets c = put_no_to _ _ _ _ _ c.if-t-sets.false

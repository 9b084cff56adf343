-- `lock_edges::append_call` meets its contract. Assumes nothing.
use Rattle.sets.proofs.AppendLaws.{appended_both}
use Rattle.lock_edges.proofs.append_call.Goals as goal

pub returns-in-Some : goal.returns-in-Some
returns-in-Some c = rw (c.if-here.false, c.in-Some.is, ← c.value_at.ensures) (appended_both c.push.ensures c.append_nexts.ensures)

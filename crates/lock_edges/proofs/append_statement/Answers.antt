-- `lock_edges::append_statement` meets its contract. Assumes nothing.
use Rattle.lock_edges.specs.ViewEdges.{view_edges}
use Rattle.sets.proofs.AppendLaws.{appended_both}
use Rattle.lock_edges.proofs.append_statement.Goals as goal

pub returns : goal.returns
unfolding view_edges
returns c =
    rw (← c.met_place.ensures) (appended_both c.append_call.ensures (appended_both c.append_nexts.ensures (appended_both c.append_give.ensures (appended_both c.append_start.ensures c.append_end.ensures))))

-- `lock_edges::append_nexts` meets its contract. Assumes nothing.
use Rattle.sets.proofs.AppendLaws.{appended_same, appended_both}
use Rattle.lock_edges.specs.ViewEdgeLaws.{nexts_mapped}
use Rattle.lock_edges.proofs.append_nexts.Goals as goal

pub returns : goal.returns
returns c = appended_same _ _ (nexts_mapped _ _ c.args.here.now.view) (appended_both c.push_to.ensures c.push_if.ensures)

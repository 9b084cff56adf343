-- `edges::append_nexts` meets its contract. Assumes nothing.
use Rattle.std.proofs.Common.{refl}
use Rattle.edges.specs.Grown.{grown_same, grown_both}
use Rattle.edges.specs.LineLaws.{viewed, next_at}
use Rattle.edges.proofs.append_nexts.Goals as goal

pub returns : goal.returns
returns c = grown_same (next_at _ _ (viewed c.program.view_is c.line_of-line.ensures c.requires refl) c.target_at.ensures c.onward_at.ensures) (grown_both c.push_from.ensures c.push_if.ensures)

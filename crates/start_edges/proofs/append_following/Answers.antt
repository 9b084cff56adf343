-- `start_edges::append_following` meets its contract. Assumes nothing.
use Rattle.std.proofs.Common.{refl}
use Rattle.edges.specs.Grown.{grown_same, grown_both}
use Rattle.edges.specs.LineLaws.{viewed}
use Rattle.start_edges.proofs.StartLaws.{following_parts}
use Rattle.start_edges.proofs.append_following.Goals as goal

pub returns : goal.returns
returns c =
    grown_same (following_parts _ _ (viewed c.program.view_is c.line_of-line.ensures c.requires refl) _ c.target_at.ensures c.onward_at.ensures)
    (grown_both c.push_to.ensures c.push_if.ensures)

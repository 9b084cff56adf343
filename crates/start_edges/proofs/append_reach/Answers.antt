-- `start_edges::append_reach` meets its contract. Assumes nothing.
use Rattle.std.proofs.Common.{refl}
use Rattle.edges.specs.Grown.{grown_same, grown_both}
use Rattle.edges.specs.LineLaws.{viewed}
use Rattle.start_edges.proofs.StartLaws.{some_is, reach_parts}
use Rattle.start_edges.proofs.append_reach.Goals as goal

pub returns : goal.returns
returns c =
    grown_same
    (reach_parts _ _ (viewed c.program.view_is c.line_of-line.ensures c.requires.0 refl) _ _ c.routines.ensures.is c.requires.1 (some_is _ c.is_some-starts.ensures) c.starts_at.ensures c.calls_at.ensures)
    (grown_both c.push_if.ensures c.push_from.ensures)

-- `start_edges::append_preceding` meets its contract. Assumes nothing.
use Rattle.std.proofs.Common.{refl}
use Rattle.edges.specs.Grown.{grown_same, grown_both}
use Rattle.start_edges.proofs.StartLaws.{preceding_parts}
use Rattle.start_edges.proofs.append_preceding.Goals as goal

pub returns : goal.returns
returns c = grown_same (preceding_parts _ _ _ c.origin_of.ensures refl) (grown_both c.append_following.ensures c.append_entering.ensures)

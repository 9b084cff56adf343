-- `edges::append_calls` meets its contract. Assumes nothing.
use Rattle.std.proofs.Common.{refl}
use Rattle.edges.specs.Grown.{grown_same}
use Rattle.edges.specs.LineLaws.{viewed, call_at}
use Rattle.edges.proofs.append_calls.Goals as goal

pub returns : goal.returns
returns c = grown_same (call_at _ _ _ (viewed c.program.view_is c.line_of.ensures c.requires.0 refl) c.calls_at.ensures c.requires.1) c.push_from.ensures

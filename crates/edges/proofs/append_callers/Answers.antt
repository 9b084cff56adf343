-- `edges::append_callers` meets its contract. Assumes nothing.
use Rattle.std.proofs.Common.{refl}
use Rattle.edges.specs.Grown.{grown_same, grown_both}
use Rattle.edges.specs.LineLaws.{viewed, caller_at}
use Rattle.edges.proofs.append_callers.Goals as goal

pub returns : goal.returns
returns c = grown_same (caller_at _ _ _ _ (viewed refl c.requires.line_value.0 c.requires.line_value.1 refl) c.requires.end_value.0 c.requires.end_value.2 c.calls_at-called.ensures) (grown_both c.push_to.ensures c.push_to-2.ensures)

-- `edges::append_naming` meets its contract. Assumes nothing.
use Rattle.std.proofs.Common.{refl}
use Rattle.edges.specs.Grown.{grown_same}
use Rattle.edges.specs.LineLaws.{viewed, naming_at}
use Rattle.edges.proofs.append_naming.Goals as goal

pub returns : goal.returns
returns c = grown_same (naming_at _ _ _ (viewed c.program.view_is c.line_of.ensures c.requires.0 refl) c.names_at.ensures c.requires.1) c.push_from.ensures

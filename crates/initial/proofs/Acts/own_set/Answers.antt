-- `initial::Acts::own_set` meets its contract. Assumes nothing.
use Rattle.std.proofs.Common.{refl, ◌∙◌}
use Rattle.table.specs.Table.{table_of}
use Rattle.edges.specs.LineLaws.{viewed}
use Rattle.initial.specs.InitialLaws.{own_is}
use Rattle.initial.proofs.Acts.own_set.Goals as goal

pub returns : goal.returns
returns c = c.set_on.ensures ∙ own_is (table_of c.args.self.now.program.now) c.args.s (viewed c.program.view_is c.line_of.ensures c.requires refl) _ _ c.touched.ensures

-- `stages::shared_from` meets its contract. Assumes nothing.
use mathlib.Core.Path.{◌∙◌}
use Rattle.table.specs.Table.{table_of}
use Rattle.findings.specs.FoundLaws.{shared_found}
use Rattle.stages.specs.SetsLaws.{later_known}
use Rattle.stages.proofs.shared_from.Goals as goal

pub returns : goal.returns
returns c =
    c.shared_cells.ensures.is ∙ shared_found c.args.solved.now.program.now c.shared_cells.ensures.accepted c.requires.reads_value c.requires.writes_value (later_known (table_of c.args.solved.now.program.now) _ c.args.solved.now.flow_is _ _ _ c.requires.reads_value c.requires.writes_value c.future_sets.ensures)

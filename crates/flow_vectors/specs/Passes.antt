-- How many passes over the statements the flow sets of a text take. Assumes nothing.
use Rattle.std.specs.Prelude.{ℕ, List, Ok, Err}
use Rattle.lines.specs.Line.{numbers_of}
use Rattle.table.specs.Table.{Table, table_of}
use Rattle.table.specs.Verdict.{Verdict, verdict}
use Rattle.report.specs.Layout.{one_each}
use Rattle.report.specs.FlowPasses.{flow_passes}

-- those of a table that is accepted; 0 where it is refused
abbrev pub passes_by : Verdict → Table → ℕ
passes_by (Ok u) t = flow_passes t (one_each t)
passes_by (Err r) t = 0

unfoldable pub passes_in : List ℕ → ℕ
passes_in text = passes_by (verdict text) (table_of (numbers_of text))

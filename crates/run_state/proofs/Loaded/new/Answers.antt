-- `run_state::Loaded::new` meets its contract. Assumes nothing.
use mathlib.Core.Path.{ap, ◌∙◌}
use Rattle.table.specs.Table.{table_of, counts_of}
use Rattle.table.specs.declared.Counts.{Counts}
use Rattle.run_state.proofs.Loaded.new.Goals as goal

pub invariant_of-result : goal.invariant_of-result
unfolding counts_of table_of
invariant_of-result c =
    let counts = c.counts_of-counts.ensures ∙ ap counts_of c.program.view_is in
    record { long = c.requires; cells_are = ap (λ (k : Counts). k.cells) counts; locks_are = ap (λ (k : Counts). k.locks) counts }

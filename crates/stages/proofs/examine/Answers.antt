-- `stages::examine` meets its contract. Assumes nothing.
use mathlib.Core.Path.{sym, ◌∙◌}
use Prim.Native.Nat.{ℕ}
use Rattle.table.specs.Table.{table_of}
use Rattle.table.proofs.CutLaws.{cut_long}
use Rattle.stages.specs.SetsLaws.{flow_known}
use Rattle.table.proofs.FrontLaws.{front_is}
use Rattle.stages.proofs.examine.Goals as goal

pub invariant_of-solved : goal.invariant_of-solved
invariant_of-solved c =
    let few = c.handles-handles.ensures.few in
    let long = c.flow_sets.auto.flow ∙ sym (cut_long {A = ℕ} _ 128 0 few) in
    record { flow_is = front_is 128 c.flow_sets.new.flow long ∙ flow_known (table_of c.new-program.result) _ c.flow_sets.ensures }

-- `stages::find_shared` meets its contract. Assumes nothing.
use mathlib.Core.Path.{sym, ◌∙◌}
use Prim.Native.Nat.{ℕ}
use native.Mathlib.Omega.{arith}
use Rattle.table.specs.Table.{table_of}
use Rattle.table.proofs.CutLaws.{cut_long}
use Rattle.stages.specs.SetsLaws.{reads_known, writes_known}
use Rattle.table.proofs.FrontLaws.{front_is}
use Rattle.stages.proofs.find_shared.Goals as goal

pub shared_from-requires : goal.shared_from-requires
shared_from-requires c =
    let r = c.routines-routines.ensures.few in
    let reads = c.effect_sets.auto.reads ∙ sym (cut_long {A = ℕ} _ 32 0 r) in
    let writes = c.effect_sets.auto.writes ∙ sym (cut_long {A = ℕ} _ 32 0 r) in
    let t = table_of c.args.solved.now.program.now in
    record { reads_value = front_is 32 c.effect_sets.new.reads reads ∙ reads_known t _ c.args.solved.now.flow_is _ c.effect_sets.ensures.reads; writes_value = front_is 32 c.effect_sets.new.writes writes ∙ writes_known t _ c.args.solved.now.flow_is _ c.effect_sets.ensures.writes; later_len = c.requires.later_len; numbers_in_bounds = omega (arith, c.effect_sets.auto.edges, c.requires.numbers_in_bounds) }

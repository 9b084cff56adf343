-- `stages::print_found` meets its contract. Assumes nothing.
use mathlib.Core.Path.{ap, ◌∙◌}
use mathlib.Core.List.{List}
use Prim.Native.Nat.{ℕ}
use lib.ListN.{take}
use Rattle.findings.specs.FoundLaws.{found}
use Rattle.stages.specs.SetsLaws.{second_half}
use Rattle.stages.proofs.print_found.Goals as goal

pub print_report-requires : goal.print_report-requires
print_report-requires c =
    let count = c.statements-count.ensures.is in
    found c.args.solved.now.program.now c.args.solved.now.flow_is (second_half c.args.work.now _ _ count ∙ c.requires.work_value_2) c.statements-count.ensures.accepted (ap {B = List ℕ} (λ (n : ℕ). take n c.args.work.now) count ∙ c.requires.work_value) _ _ c.requires.shared_value c.note_accesses-noted.ensures

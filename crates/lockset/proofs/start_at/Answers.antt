-- `lockset::start_at` meets its contract. Assumes nothing.
use Rattle.std.proofs.Common.{sym, ap, ◌∙◌}
use Rattle.std.specs.Prelude.{ℕ}
use Rattle.sets.specs.Set.{minus}
use Rattle.report.specs.Held.{only_lock}
use Rattle.lockset.specs.SettleLaws.{in_early, in_given, in_flow, in_other, in_every}
use Rattle.lockset.proofs.start_at.Goals as goal

pub returns-then-p-bases : goal.returns-then-p-bases
returns-then-p-bases c = sym (in_early _ _ c.args.bases _ _ c.if-p-bases.true)

pub returns-then-p-bases-2 : goal.returns-then-p-bases-2
returns-then-p-bases-2 c = c.value_at.ensures ∙ in_given _ _ c.args.bases _ _ c.if-p-bases.false c.if-p-bases-2.true

pub returns-then-p-bases-3 : goal.returns-then-p-bases-3
returns-then-p-bases-3 c = c.value_at-then-p-bases-3.ensures ∙ in_flow _ _ c.args.bases _ _ c.if-p-bases.false c.if-p-bases-2.false c.if-p-bases-3.true

pub returns-then-p-bases-4 : goal.returns-then-p-bases-4
returns-then-p-bases-4 c =
    c.difference.ensures ∙ ap (λ (x : ℕ). minus c.args.all x) (c.only_lock.ensures ∙ ap only_lock c.value_at-then-p-bases-4.ensures)
    ∙ in_other _ _ c.args.bases _ _ c.if-p-bases.false c.if-p-bases-2.false c.if-p-bases-3.false c.if-p-bases-4.true

pub returns : goal.returns
returns c = in_every _ _ c.args.bases _ _ c.if-p-bases.false c.if-p-bases-2.false c.if-p-bases-3.false c.if-p-bases-4.false

-- `steps::step` meets its contract. Assumes nothing.
use mathlib.Core.Path.{refl}
use Rattle.declarations.specs.Laid.{laid_for}
use Rattle.steps.specs.StepLaws.{not_started, has_ended}
use Rattle.steps.proofs.Operating.{lined, placed_there, here_at}
use Rattle.steps.proofs.step.Goals as goal

pub returns-then-state-n : goal.returns-then-state-n
returns-then-state-n c = λ state shown. not_started _ _ state _ shown c.if-state-n.true

pub returns-then-count-eq0 : goal.returns-then-count-eq0
returns-then-count-eq0 c = λ state shown. has_ended _ _ state _ shown c.if-state-n.false c.if-count-eq0.true

pub statement_at-statement-requires : goal.statement_at-statement-requires
statement_at-statement-requires c = rw c.program.view_is (lined c.args.loaded.now (laid_for c.program.view_is c.program.invariant) _ _ _ c.requires c.if-state-n.false refl c.if-count-eq0.false _ refl).there

pub invariant_of-at : goal.invariant_of-at
invariant_of-at c =
    let p = placed_there c.args.loaded.now (laid_for c.program.view_is c.program.invariant) _ _ _ c.requires c.if-state-n.false refl c.if-count-eq0.false _ refl in record { thread_low = p.thread_low; slot_low = p.slot_low; next_low = p.next_low }

pub operate-requires : goal.operate-requires
operate-requires c = here_at c.args.loaded.now (laid_for c.program.view_is c.program.invariant) _ _ _ c.requires c.if-state-n.false refl c.if-count-eq0.false _ _ _ _ _ refl (rw c.program.view_is at c.statement_at-statement.ensures)

-- `initial::flow_initial` meets its contract. Assumes nothing.
use Rattle.std.proofs.Common.{sym, ap, ◌∙◌, arith}
use Rattle.sets.specs.Set.{one}
use Rattle.declarations.specs.Laid.{few_handles}
use Rattle.initial.specs.InitialLaws.{start_local, start_parameter}
use Rattle.initial.proofs.flow_initial.Goals as goal

pub overflow_add-line : goal.overflow_add-line
overflow_add-line c = omega (arith, c.requires, few_handles c.program.view_is c.program.invariant)

pub returns-then-field_of-eq1 : goal.returns-then-field_of-eq1
returns-then-field_of-eq1 c =
    rw (← c.program.view_is)
    (c.one.ensures ∙ ap one c.field_of-then-field_of-eq1.ensures.is ∙ start_local _ _ (rw c.program.view_is c.requires) (sym c.field_of.ensures.is ∙ c.if-field_of-eq1.true))

pub returns : goal.returns
returns c = rw (← c.program.view_is) (start_parameter _ _ (rw c.program.view_is c.requires) (λ e. c.if-field_of-eq1.false (c.field_of.ensures.is ∙ e)))

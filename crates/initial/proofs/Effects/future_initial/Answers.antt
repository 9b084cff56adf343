-- `initial::Effects::future_initial` meets its contract. Assumes nothing.
use Rattle.std.proofs.Common.{◌∙◌, arith}
use Rattle.initial.specs.InitialLaws.{future_inside, future_behind}
use Rattle.initial.proofs.Effects.future_initial.Goals as goal

pub returns-then-p-statements : goal.returns-then-p-statements
returns-then-p-statements c = c.nexts_effect.ensures ∙ future_inside _ _ _ _ _ (omega (arith, c.statements.ensures.is, c.if-p-statements.true))

pub returns : goal.returns
returns c = future_behind _ _ _ _ _ (omega (arith, c.statements.ensures.is, c.if-p-statements.false))

-- `initial::Effects::effect_at` meets its contract. Assumes nothing.
use Rattle.std.specs.Prelude.{ℕ}
use Rattle.std.proofs.Common.{refl, ap₂, ◌∙◌, arith}
use Rattle.sets.specs.Set.{union}
use Rattle.edges.specs.LineLaws.{viewed}
use Rattle.initial.specs.InitialLaws.{effect_past, effect_is}
use Rattle.initial.proofs.Effects.effect_at.Goals as goal

pub returns-then-statements-s : goal.returns-then-statements-s
returns-then-statements-s c = effect_past _ _ _ _ _ (omega (arith, c.statements.ensures.is, c.if-statements-s.true))

pub returns : goal.returns
returns c =
    c.union.ensures ∙ ap₂ {C = ℕ} (λ (x y : ℕ). union x y) c.own_set.ensures c.set_on.ensures
    ∙ effect_is _ _ (viewed c.program.view_is c.line_of.ensures (omega (arith, c.statements.ensures.is, c.if-statements-s.false)) refl) _ _ _ refl c.names_at-names.ensures

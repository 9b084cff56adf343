-- `initial::Effects::nexts_effect` meets its contract. Assumes nothing.
use Rattle.std.specs.Prelude.{ℕ}
use Rattle.std.proofs.Common.{refl, ap₂, ◌∙◌}
use Rattle.sets.specs.Set.{union}
use Rattle.edges.specs.LineLaws.{viewed}
use Rattle.initial.specs.InitialLaws.{later_both, later_there}
use Rattle.initial.proofs.Effects.nexts_effect.Goals as goal

pub returns-then-onward_at : goal.returns-then-onward_at
returns-then-onward_at c =
    c.union.ensures ∙ ap₂ {C = ℕ} (λ (x y : ℕ). union x y) c.effect_on-there.ensures c.effect_at.ensures
    ∙ later_both _ _ (viewed c.program.view_is c.line_of-line.ensures c.requires refl) _ _ _ c.target_at-target.ensures c.onward_at.ensures c.if-onward_at.true

pub returns : goal.returns
returns c = c.effect_on-there.ensures ∙ later_there _ _ (viewed c.program.view_is c.line_of-line.ensures c.requires refl) _ _ _ c.target_at-target.ensures c.onward_at.ensures c.if-onward_at.false

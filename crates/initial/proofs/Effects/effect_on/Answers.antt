-- `initial::Effects::effect_on` meets its contract. Assumes nothing.
use Rattle.initial.proofs.Effects.effect_on.Goals as goal

pub returns-in-Some : goal.returns-in-Some
returns-in-Some c = rw c.in-Some.is c.effect_at.ensures

-- `initial::Acts::fill_own` meets its contract. Assumes nothing.
use Rattle.std.proofs.Common.{rules, of_calls}
use Rattle.initial.proofs.Acts.fill_own.Goals as goal

pub returns : goal.returns
returns c = c.fill_each.ensures _ (λ p r l h. search (rules, of_calls))

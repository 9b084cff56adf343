-- `stages::shared_of` meets its contract. Assumes nothing.
use mathlib.Core.Path.{sym, ◌∙◌}
use Rattle.findings.specs.StartLaws.{none_shared}
use Rattle.stages.proofs.shared_of.Goals as goal

pub returns-then-started-eq0 : goal.returns-then-started-eq0
returns-then-started-eq0 c = none_shared _ c.started.ensures.accepted (sym c.started.ensures.is ∙ c.if-started-eq0.true) _

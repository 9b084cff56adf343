-- `lockset::only_lock` meets its contract. Assumes nothing.
use mathlib.Core.Path.{sym, ◌∙◌}
use Rattle.report.specs.Held.{only_lock}
use Rattle.lockset.proofs.only_lock.Goals as goal

pub returns-then-is_single : goal.returns-then-is_single
unfolding only_lock
returns-then-is_single c = rw (sym c.is_single.ensures ∙ c.if-is_single.true)

pub returns-else-is_single : goal.returns-else-is_single
unfolding only_lock
returns-else-is_single c = rw (sym c.is_single.ensures ∙ c.if-is_single.false)

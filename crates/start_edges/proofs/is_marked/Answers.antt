-- `start_edges::is_marked` meets its contract. Assumes nothing.
use mathlib.Core.Path.{ap, ◌∙◌}
use mathlib.Core.Bool.{Bool}
use Prim.Native.Nat.{ℕ}
use Rattle.sets.specs.Set.{has}
use Rattle.report.specs.Preceded.{is_marked}
use Rattle.start_edges.proofs.is_marked.Goals as goal

pub returns : goal.returns
unfolding is_marked
returns c = c.has.ensures ∙ ap {B = Bool} (λ (x : ℕ). has x 0) c.value_at.ensures

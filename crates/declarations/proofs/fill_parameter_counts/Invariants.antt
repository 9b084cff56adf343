-- `declarations::fill_parameter_counts` meets its contract. Assumes nothing.
use Prim.Native.Nat.{◌≤◌}
use Rattle.table.specs.Handles.{parameters}
use Rattle.table.specs.TabulateLaws.{Begun}
use Rattle.declarations.proofs.fill_parameter_counts.Given as goal

abbrev pub invariant-loop-r : goal.invariant-loop-r
invariant-loop-r l = (l.r ≤ l.count) × Begun (parameters l.numbers) l.counts 32 l.r

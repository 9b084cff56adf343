-- `declarations::fill_first_statements` meets its contract. Assumes nothing.
use Prim.Native.Nat.{◌≤◌}
use Rattle.declarations.specs.ListLaws.{Summing}
use Rattle.declarations.proofs.fill_first_statements.Given as goal

abbrev pub invariant-loop-r : goal.invariant-loop-r
invariant-loop-r l = (l.r ≤ l.count) × Summing l.numbers l.first l.sum l.r

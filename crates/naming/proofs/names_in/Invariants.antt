-- `naming::names_in` meets its contract. Assumes nothing.
use Prim.Native.Nat.{◌≤◌}
use Rattle.table.specs.Naming.{names_of}
use Rattle.table.specs.TabulateLaws.{Begun}
use Rattle.naming.proofs.names_in.Given as goal

abbrev pub invariant-loop-r : goal.invariant-loop-r
invariant-loop-r l = (l.r ≤ l.count) × Begun (names_of l.outline.numbers.now) l.names 32 l.r

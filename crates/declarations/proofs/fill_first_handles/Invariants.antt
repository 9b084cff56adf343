-- `declarations::fill_first_handles` meets its contract. Assumes nothing.
use Prim.Native.Nat.{◌≤◌}
use Rattle.declarations.specs.ListLaws.{Skipping}
use Rattle.declarations.proofs.fill_first_handles.Given as goal

abbrev pub invariant-loop-r : goal.invariant-loop-r
invariant-loop-r l = (l.r ≤ l.count) × Skipping l.numbers l.from l.h l.r

-- `naming::all_named` meets its contract. Assumes nothing.
use Prim.Native.Nat.{ℕ, ◌≤◌}
use lib.ListN.{get_or}
use Rattle.naming.specs.GatherLaws.{Gathering}
use Rattle.naming.proofs.all_named.Given as goal

abbrev pub invariant-loop-r : goal.invariant-loop-r
invariant-loop-r l = (l.r ≤ l.count) × Gathering (λ (k : ℕ). get_or l.names k 0) 32 0 l.all l.r

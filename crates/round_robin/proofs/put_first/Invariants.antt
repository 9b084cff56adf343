-- `round_robin::put_first` meets its contract. Its loop has gone along the edges from k on. Assumes nothing.
use Prim.Native.Nat.{◌≤◌}
use Rattle.round_robin.specs.Onward.{Onward}
use Rattle.round_robin.proofs.put_first.Given as goal

abbrev pub invariant-loop-k : goal.invariant-loop-k
invariant-loop-k l = (l.k ≤ l.n) × Onward l.edges l.n l.k l.initial.sets l.sets l.changed l.after

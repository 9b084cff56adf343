-- `round_robin::pass` meets its contract. Its loop has gone along the edges from k on. Assumes nothing.
use mathlib.Core.Bool.{false}
use Prim.Native.Nat.{◌≤◌}
use lib.ListN.{length}
use Rattle.round_robin.specs.Onward.{Onward}
use Rattle.round_robin.proofs.pass.Given as goal

abbrev pub invariant-loop-k : goal.invariant-loop-k
invariant-loop-k l = (l.k ≤ length l.edges) × Onward l.edges (length l.edges) l.k l.initial.sets l.sets false l.changed

abbrev pub decreases-loop-k : goal.decreases-loop-k
decreases-loop-k l = l.k

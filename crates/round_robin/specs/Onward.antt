-- Part of a pass: what the functions below a pass promise to it. Assumes nothing.
use Rattle.std.specs.Prelude.{◌≡◌, Bool, true, false, List, map, ℕ, ◌≤◌, ◌<◌, length, drop}
use Rattle.sets.specs.Least.{edge_of, room}
use Rattle.round_robin.specs.RoundRobin.{pass_down}

-- the edges from k on were gone along, the last first
pub record PassedTo (edges s₀ s : List ℕ) (changed : Bool) (k : ℕ) : Type 0 where
  pub inside : k ≤ length edges
  pub places : length s ≡ length s₀
  pub is : s ≡ pass_down (map edge_of (drop k edges)) s₀
  pub still : changed ≡ false → s ≡ s₀
  pub moved : changed ≡ true → room s < room s₀

-- where the edges from k on had been gone along before, those from j on have been afterwards
pub record Onward (edges : List ℕ) (k j : ℕ) (s s' : List ℕ) (before after : Bool) : Type 0 where
  pub places : length s' ≡ length s
  pub then : (s₀ : List ℕ) → PassedTo edges s₀ s before k → PassedTo edges s₀ s' after j

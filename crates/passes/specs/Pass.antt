-- What an edge, a pass and some passes leave: what the parts of the solver promise to each other. Assumes nothing.
use Rattle.std.specs.Prelude.{◌≡◌, Bool, true, false, List, ◌⊎◌, ℕ, ◌≤◌, ◌<◌, length}
use Rattle.sets.specs.Least.{Inside, room, Edge, edges_of, along, Held, Closed}
use Rattle.sets.specs.LeastLaws.{edge_at}

-- one edge was gone along; `after` says whether anything changed so far, and `before` whether anything had before
pub record Put (e : Edge) (s₀ s : List ℕ) (before after : Bool) : Type 0 where
  pub becomes : s ≡ along e s₀
  pub still : after ≡ false → (before ≡ false) × (s ≡ s₀)
  pub moved : after ≡ true → (before ≡ true) ⊎ (room s < room s₀)

-- the edges from lo on and before hi were gone along
pub record Passed (edges also s₀ s : List ℕ) (changed : Bool) (lo hi : ℕ) : Type 0 where
  pub places : length s ≡ length s₀
  pub holds : Inside s₀ s
  pub within : (r : List ℕ) → length s₀ ≡ length r → Closed (edges_of edges also) r → Inside s₀ r → Inside s r
  pub still : changed ≡ false → (s ≡ s₀) × ((k : ℕ) → lo ≤ k → k < hi → Held s₀ (edge_at edges also k))
  pub moved : changed ≡ true → room s < room s₀

-- some passes were made; where the last one changed nothing, the list is closed
pub record Solving (edges also s₀ s : List ℕ) (going : Bool) : Type 0 where
  pub places : length s ≡ length s₀
  pub holds : Inside s₀ s
  pub within : (r : List ℕ) → length s₀ ≡ length r → Closed (edges_of edges also) r → Inside s₀ r → Inside s r
  pub closed : going ≡ false → Closed (edges_of edges also) s

-- a step of the solver: a pass, and what the worklist makes of it. One that changes something leaves less room
pub record Stepped (edges also s₀ s : List ℕ) (going : Bool) : Type 0 where
  pub solving : Solving edges also s₀ s going
  pub less : going ≡ true → room s < room s₀

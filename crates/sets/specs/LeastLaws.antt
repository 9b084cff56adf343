-- What edges come to: the least list is closed under every edge, holds the start, and is inside every other such list. Assumes nothing.
use Rattle.std.specs.Prelude.{ℕ, get_or}
use mathlib.Core.List.{List}
use Rattle.sets.specs.Least.{Edge, edge_of}

-- edge k of two lists of numbers
unfoldable pub edge_at : List ℕ → List ℕ → ℕ → Edge
edge_at ends also k = record { from = (edge_of (get_or ends k 0)).from; also = get_or also k (edge_of (get_or ends k 0)).from; to = (edge_of (get_or ends k 0)).to }

-- The lists that are lent for a table's sets and edges. Assumes nothing.
use Rattle.std.specs.Prelude.{◌≡◌, List, ℕ, ◌+◌, ◌*◌, ◌≤◌, ℤ, length}
use Rattle.std.proofs.Common.{arith}
use Rattle.table.specs.Header.{routines, statements}
use Rattle.held_edges.specs.TableEdges.{bases_of}

-- for the sets of a table, and for its edges
pub record Lent (f : List ℤ) (work edges : List ℕ) : Type 0 where
  pub work_long : statements f + 2 * (statements f + routines f) ≤ length work
  pub places_long : statements f + ((bases_of f).every + 1) ≤ length work
  pub edges_long : 4 * statements f ≤ length edges

-- the edges may change
pub lent_edges : {f : List ℤ} {work edges : List ℕ} (edges' : List ℕ) → Lent f work edges → length edges' ≡ length edges → Lent f work edges'
lent_edges edges' l e = record { work_long = l.work_long; places_long = l.places_long; edges_long = omega (arith, l.edges_long) }

-- The dataflow equations that least sets along edges solve: the edges of each, over the table's own numbers.
-- What `dataflow` promises cites the report's definitions; these are the same, as the code goes through them. Assumes nothing.
use Rattle.std.specs.Prelude.{ℕ, ◌+◌, Bool, true, false, cond, List, [], ◌∷◌, ◌++◌, map, length}
use Rattle.sets.specs.Least.{Edge, plain}
use Rattle.table.specs.Table.{Table, statement}
use Rattle.table.specs.View.{view, list_on, calls}
use Rattle.table.specs.declared.Statement.{Statement}
use Rattle.report.specs.Over.{joined_from}
use Rattle.report.specs.Layout.{named, owner_of, one_each}
use Rattle.report.specs.Operations.{nexts}
use Rattle.report.specs.Flow.{flow_edges}

-- what is asked of a table: flow sets, effects, given-up locks, and futures in two stages: what may follow in the routine, what comes from its CALLs
pub data Equation : Type 0 where
  Flow : Equation
  Effects : Equation
  Gives : Equation
  Nexts : Equation
  Callers : Equation

abbrev pub edge : ℕ → ℕ → Edge
edge f t = plain f t

-- ---- edges

-- from the routine that a CALL names, or also a START, to the routine c that it stands in
unfoldable pub up_edges : Bool → ℕ → Statement → List Edge
up_edges starts c σ = list_on (cond starts (view σ).names (calls (view σ))) (λ q. edge (named σ) c ∷ [])

-- to statement s from what may come next
unfoldable pub next_edges : ℕ → Statement → List Edge
next_edges s σ = map (λ (n : ℕ). edge n s) (nexts s σ)

-- from place p to that of the CALLs of the routine that a CALL names; these places stand from `base` on
unfoldable pub call_edges : ℕ → ℕ → Statement → List Edge
call_edges base p σ = list_on (calls (view σ)) (λ q. edge p (base + named σ) ∷ [])

-- those of statement s
unfoldable pub edges_at : Equation → Table → ℕ → List Edge
edges_at Flow t s = flow_edges t (one_each t) 0 s (statement t s)
edges_at Effects t s = up_edges true (owner_of t s) (statement t s)
edges_at Gives t s = up_edges false (owner_of t s) (statement t s)
edges_at Nexts t s = next_edges s (statement t s)
edges_at Callers t s =
    call_edges (length t.statements) s (statement t s) ++ call_edges (length t.statements) (length t.statements + owner_of t s) (statement t s)

-- those of all statements
unfoldable pub edges_for : Equation → Table → List Edge
edges_for q t = joined_from 0 (length t.statements) (edges_at q t)

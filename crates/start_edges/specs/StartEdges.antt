-- C-13's two equations over the table's own numbers: which routines reach a START, and which statements a START can precede. With one copy of each routine
-- these are the edges of the report's definitions, as the code goes through them. Assumes nothing.
use Rattle.std.specs.Prelude.{ℕ, ◌+◌, cond, length}
use mathlib.Core.List.{List, [], ◌∷◌, ◌++◌, map}
use Rattle.sets.specs.Least.{Edge}
use Rattle.table.specs.Table.{Table, statement}
use Rattle.table.specs.View.{view, list_on, starts}
use Rattle.table.specs.declared.Statement.{Statement}
use Rattle.report.specs.Over.{joined_from}
use Rattle.report.specs.Layout.{named, owner_of, one_each}
use Rattle.report.specs.Operations.{nexts}
use Rattle.report.specs.Preceded.{reach_edges, brings_start}
use Rattle.edges.specs.Equations.{edge, call_edges}

-- those of statement s
unfoldable pub reach_at : Table → ℕ → List Edge
reach_at t s = reach_edges (one_each t) (owner_of t s) s (statement t s)

-- those of all statements
unfoldable pub reach_for : Table → List Edge
reach_for t = joined_from 0 (length t.statements) (reach_at t)

-- from a place to what may follow statement s
unfoldable pub following_edges : ℕ → ℕ → Statement → List Edge
following_edges origin s σ = map (λ (n : ℕ). edge origin n) (nexts s σ)

-- into the routine that statement s of routine c names: from "a START", which stands at place `last`, if it is a START; from s and from the place of c, if it
-- is a CALL; these places stand from `base` on
unfoldable pub entering_edges : ℕ → ℕ → ℕ → ℕ → Statement → List Edge
entering_edges base last c s σ = list_on (starts (view σ)) (λ q. edge last (base + named σ) ∷ []) ++ (call_edges base s σ ++ call_edges base (base + c) σ)

-- the place of "a START"
abbrev pub last_of : Table → ℕ
last_of t = length t.statements + length t.routines

-- what follows statement s follows this place: "a START" if s is one or a CALL that reaches one, else s
unfoldable pub origin_of : Table → List ℕ → ℕ → ℕ
origin_of t reach s = cond (brings_start (one_each t) reach (owner_of t s) s (statement t s)) (last_of t) s

-- those of statement s
unfoldable pub preceding_at : Table → List ℕ → ℕ → List Edge
preceding_at t reach s =
    following_edges (origin_of t reach s) s (statement t s) ++ entering_edges (length t.statements) (last_of t) (owner_of t s) s (statement t s)

-- those of all statements
unfoldable pub preceding_for : Table → List ℕ → List Edge
preceding_for t reach = joined_from 0 (length t.statements) (preceding_at t reach)

-- "Future of a statement: the effects of all statements that may follow it in its routine, round loops too, with the futures of all CALLs of that
-- routine." A list of sets, one for each statement of each copy, and behind them one for each copy: the futures of all CALLs of it.
-- Assumes nothing.
use Rattle.std.specs.Prelude.{ℕ, ◌+◌, Bool, cond, List, [], ◌∷◌, ◌++◌, map, ltb}
use Rattle.sets.specs.Least.{Edge, plain, least}
use Rattle.table.specs.Table.{Table, statement}
use Rattle.table.specs.Tabulate.{tabulate}
use Rattle.table.specs.View.{view, list_on, calls}
use Rattle.report.specs.Over.{joined_from, union_at}
use Rattle.report.specs.Layout.{Layout}
use Rattle.report.specs.Operations.{nexts}
use Rattle.report.specs.Effect.{effect_of}

-- the place of the futures of all CALLs of copy c
unfoldable pub callers : Layout → ℕ → ℕ
callers k c = k.statements + c

-- the effects of the statements that may come next
unfoldable pub next_effects : Table → Layout → List ℕ → List ℕ → Bool → ℕ → ℕ → ℕ
next_effects t k flow effect w c s = union_at (nexts s (statement t s)) (effect_of t k flow effect w c)

-- to each statement from what may come next and from the CALLs of its copy, and from a CALL to those of the copy that it leads to
unfoldable pub future_edges : Table → Layout → List Edge
future_edges t k =
    joined_from 0 k.statements
    (λ p.
    map (λ (n : ℕ). plain (k.statement_place (k.statement_copy p) n) p) (nexts (k.statement_at p) (statement t (k.statement_at p)))
    ++ (plain (callers k (k.statement_copy p)) p
    ∷ list_on (calls (view (statement t (k.statement_at p)))) (λ q. plain p (callers k (k.leads (k.statement_copy p) (k.statement_at p))) ∷ [])))

-- before anything goes along the edges: the effects of what may come next, and nothing for the CALLs of a copy
unfoldable pub future_initials : Table → Layout → List ℕ → List ℕ → Bool → List ℕ
future_initials t k flow effect w =
    tabulate (k.statements + k.copies)
    (λ p. let here = next_effects t k flow effect w (k.statement_copy p) (k.statement_at p) in cond (ltb p k.statements) here 0)

-- the reads or the writes in the futures
unfoldable pub futures : Table → Layout → List ℕ → List ℕ → Bool → List ℕ
futures t k flow effect w = least (future_edges t k) (future_initials t k flow effect w)

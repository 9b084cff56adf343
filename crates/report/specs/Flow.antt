-- "Flow: the least sets where a local's set holds its start, POINT h g puts g's set into h's, and CALL or START puts each argument's set into
-- its parameter's." A list of sets, one for each handle of each copy. Assumes nothing.
use Rattle.std.specs.Prelude.{ℕ, ◌+◌, cond, List, [], ◌∷◌, ◌++◌, eqb, get_or}
use Rattle.sets.specs.Set.{one}
use Rattle.sets.specs.Least.{Edge, plain, least}
use Rattle.table.specs.Table.{Table, declaration, routine, statement, passed}
use Rattle.table.specs.Tabulate.{tabulate}
use Rattle.table.specs.View.{view, list_on}
use Rattle.table.specs.declared.Arguments.{Arguments}
use Rattle.table.specs.declared.Statement.{Statement}
use Rattle.report.specs.Over.{joined_from}
use Rattle.report.specs.Layout.{Layout}

-- the flow set of handle h of copy c
abbrev pub flow_at : Layout → List ℕ → ℕ → ℕ → ℕ
flow_at k flow c h = get_or flow (k.handle_place c h) 0

-- a local's set holds its start
unfoldable pub start_of : Table → ℕ → ℕ
start_of t h = cond (eqb (declaration t h).origin 1) (one (declaration t h).start) 0

-- each argument's set goes into its parameter's: from copy c to copy d of routine q
unfoldable pub passing : Table → Layout → ℕ → ℕ → ℕ → Arguments → List Edge
passing t k c d q a =
    joined_from 0 (routine t q).parameters
    (λ j. plain (k.handle_place c (get_or (passed a) j 0)) (k.handle_place d ((routine t q).handle + j)) ∷ [])

-- what statement s of copy c puts into what
unfoldable pub flow_edges : Table → Layout → ℕ → ℕ → Statement → List Edge
flow_edges t k c s σ =
    list_on (view σ).points (λ h. plain (k.handle_place c (view σ).source) (k.handle_place c h) ∷ [])
    ++ list_on (view σ).names (λ q. passing t k c (k.leads c s) q (view σ).arguments)

-- those of all statements
unfoldable pub all_flow_edges : Table → Layout → List Edge
all_flow_edges t k =
    joined_from 0 k.statements (λ p. flow_edges t k (k.statement_copy p) (k.statement_at p) (statement t (k.statement_at p)))

-- the sets before anything flows
unfoldable pub flow_initials : Table → Layout → List ℕ
flow_initials t k = tabulate k.handles (λ p. start_of t (k.handle_at p))

-- "Flow: the least sets" under the rules above
unfoldable pub flow_sets : Table → Layout → List ℕ
flow_sets t k = least (all_flow_edges t k) (flow_initials t k)

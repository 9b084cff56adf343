-- Held sets of a mode seen from the other side: what is left out of them goes along edges, from the sets that stand here at the start. Assumes nothing.
use Rattle.std.specs.Prelude.{ℕ, ◌+◌, ◌-◌, Bool, cond, List, [], ◌∷◌, ◌++◌, map, ltb, get_or}
use Rattle.sets.specs.Set.{minus}
use Rattle.sets.specs.Least.{Edge, plain, least}
use Rattle.table.specs.Table.{Table, statement}
use Rattle.table.specs.Tabulate.{tabulate}
use Rattle.table.specs.View.{view, on_or, list_on, when, calls, starts, takes_in}
use Rattle.table.specs.declared.Statement.{Statement}
use Rattle.report.specs.Over.{joined_from}
use Rattle.report.specs.Layout.{Layout}
use Rattle.report.specs.Operations.{nexts}
use Rattle.report.specs.Held.{all_locks, entry, only_lock}

-- ---- places

-- behind the places of statements: for each copy what its RETURNs leave out, and what it may give up; for each handle its flow set, and all locks but
-- the one that its TAKE adds; at last all locks. Edges lead to the first of these alone
abbrev pub back_place : Layout → ℕ → ℕ
back_place k c = k.statements + c

abbrev pub given_place : Layout → ℕ → ℕ
given_place k c = k.statements + k.copies + c

abbrev pub flow_place : Layout → ℕ → ℕ
flow_place k h = k.statements + k.copies + k.copies + h

abbrev pub other_place : Layout → ℕ → ℕ
other_place k h = k.statements + k.copies + k.copies + k.handles + h

abbrev pub every_place : Layout → ℕ
every_place k = k.statements + k.copies + k.copies + k.handles + k.handles

abbrev pub place_count : Layout → ℕ
place_count k = every_place k + 1

-- what stands there at the start
unfoldable pub start_at : Table → Layout → List ℕ → List ℕ → ℕ → ℕ
start_at t k flow given p =
    cond (ltb p (given_place k 0)) 0
    (cond (ltb p (flow_place k 0)) (get_or given (p - given_place k 0) 0)
    (cond (ltb p (other_place k 0)) (get_or flow (p - flow_place k 0) 0)
    (cond (ltb p (every_place k)) (minus (all_locks t) (only_lock (get_or flow (p - other_place k 0) 0))) (all_locks t))))

-- ---- edges

-- what is left out behind a statement that was left out before it: over a TAKE all but the lock that it adds, over a CALL what the RETURNs leave out
unfoldable pub met_place : Layout → Bool → ℕ → ℕ → ℕ → Statement → ℕ
met_place k mode p c s σ = on_or (takes_in mode (view σ)) (λ h. other_place k (k.handle_place c h)) (on_or (calls (view σ)) (λ q. back_place k (k.leads c s)) p)

-- the edges that statement s of copy c makes, whose place is p: over a CALL, to the first statement of the routine, and to what comes next what it may
-- give up and its RETURNs leave out; to what comes next what is left out before; the flow set of a GIVE; all locks to a STARTed routine; from a RETURN back
unfoldable pub edges_at : Table → Layout → Bool → ℕ → ℕ → ℕ → Statement → List Edge
edges_at t k mode p c s σ =
    list_on (calls (view σ))
    (λ q.
    plain p (entry t k (k.leads c s))
    ∷ map (λ (n : ℕ). record { from = back_place k (k.leads c s); also = given_place k (k.leads c s); to = k.statement_place c n }) (nexts s σ))
    ++ (map (λ (n : ℕ). record { from = p; also = met_place k mode p c s σ; to = k.statement_place c n }) (nexts s σ)
    ++ (list_on (view σ).gives (λ h. map (λ (n : ℕ). plain (flow_place k (k.handle_place c h)) (k.statement_place c n)) (nexts s σ))
    ++ (list_on (starts (view σ)) (λ q. plain (every_place k) (entry t k (k.leads c s)) ∷ []) ++ when (view σ).ends (plain p (back_place k c) ∷ []))))

-- those of all statements, and all locks to the first statement of routine 0
unfoldable pub held_edges : Table → Layout → Bool → List Edge
held_edges t k mode =
    plain (every_place k) (entry t k k.first)
    ∷ joined_from 0 k.statements (λ p. edges_at t k mode p (k.statement_copy p) (k.statement_at p) (statement t (k.statement_at p)))

-- what is left out
unfoldable pub held_out : Table → Layout → Bool → List ℕ → List ℕ → List ℕ
held_out t k mode flow given = least (held_edges t k mode) (tabulate (place_count k) (start_at t k flow given))

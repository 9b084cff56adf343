-- "Held: the greatest sets of locks before each statement." A list of sets, one for each statement of each copy; and C-18: those surely held for writing
-- (mode true) and those surely held in either way (mode false), by the same rules but for TAKER. Assumes nothing.
use Rattle.std.specs.Prelude.{ℕ, Bool, cond, List, [], ◌∷◌, ◌++◌, map, get_or}
use Rattle.sets.specs.Set.{union, minus, firsts, is_single}
use Rattle.table.specs.Table.{Table, routine, statement}
use Rattle.table.specs.View.{view, set_on, list_on, calls, starts, takes_in}
use Rattle.table.specs.declared.Statement.{Statement}
use Rattle.report.specs.Over.{joined_from, inter_from}
use Rattle.report.specs.Greatest.{Way, greatest}
use Rattle.report.specs.Layout.{Layout}
use Rattle.report.specs.Operations.{nexts}
use Rattle.report.specs.Flow.{flow_at}

-- "all locks" are the table's
abbrev pub all_locks : Table → ℕ
all_locks t = firsts t.locks

-- the first statement of copy c
unfoldable pub entry : Table → Layout → ℕ → ℕ
entry t k c = k.statement_place c (routine t (k.routine_of c)).first

-- "TAKE adds the lock if its flow set has exactly one"
unfoldable pub only_lock : ℕ → ℕ
only_lock s = cond (is_single s) s 0

-- "the intersection of the sets before r's RETURNs (all locks if there is none)", of copy c
unfoldable pub at_returns : Table → Layout → (ℕ → ℕ) → ℕ → ℕ
at_returns t k held c =
    inter_from (all_locks t) (routine t (k.routine_of c)).first (routine t (k.routine_of c)).count
    (λ s. cond (view (statement t s)).ends (held (k.statement_place c s)) (all_locks t))

-- the lock that a statement of copy c takes, in a mode: "TAKE adds to both sets; TAKER adds only to the second set, under TAKE's one-lock condition"
unfoldable pub taken_in : Layout → Bool → List ℕ → ℕ → Statement → ℕ
taken_in k mode flow c σ = set_on (takes_in mode (view σ)) (λ h. only_lock (flow_at k flow c h))

-- what statement s of copy c adds, with `held` the sets before each place: the lock that it takes, and "After CALL r: the intersection of the sets before r's
-- RETURNs"
unfoldable pub gained : Table → Layout → Bool → List ℕ → (ℕ → ℕ) → ℕ → ℕ → Statement → ℕ
gained t k mode flow held c s σ =
    union (taken_in k mode flow c σ) (set_on (calls (view σ)) (λ q. at_returns t k held (k.leads c s)))

-- what it removes: "GIVE removes its whole flow set", and CALL r what a "GIVE in r, or in what r reaches by CALLs, has in its flow set"
unfoldable pub lost : Layout → List ℕ → List ℕ → ℕ → ℕ → Statement → ℕ
lost k flow given c s σ = union (set_on (view σ).gives (flow_at k flow c)) (set_on (calls (view σ)) (λ q. get_or given (k.leads c s) 0))

-- the set behind it: what it adds, joined with the locks held before that it does not remove. "Other operations keep the set."
unfoldable pub held_after : Table → Layout → Bool → List ℕ → List ℕ → (ℕ → ℕ) → ℕ → ℕ → Statement → ℕ
held_after t k mode flow given held c s σ = union (gained t k mode flow held c s σ) (minus (held (k.statement_place c s)) (lost k flow given c s σ))

-- the ways that statement s of copy c makes: to what may come next; by CALL, to the first statement of the routine with the set held here;
-- by START with the empty set
unfoldable pub ways_from : Table → Layout → Bool → List ℕ → List ℕ → ℕ → ℕ → List Way
ways_from t k mode flow given c s =
    map (λ (n : ℕ). record { to = k.statement_place c n; brings = λ held. held_after t k mode flow given held c s (statement t s) }) (nexts s (statement t s))
    ++ (list_on (calls (view (statement t s))) (λ q. record { to = entry t k (k.leads c s); brings = λ held. held (k.statement_place c s) } ∷ [])
    ++ list_on (starts (view (statement t s))) (λ q. record { to = entry t k (k.leads c s); brings = λ held. 0 } ∷ []))

-- "The entry set is the intersection over its CALLs, and empty for routine 0 and for a routine named by a START. At the first statement of a
-- routine every way in counts, the entry included. Where ways meet, intersect."
unfoldable pub all_ways : Table → Layout → Bool → List ℕ → List ℕ → List Way
all_ways t k mode flow given =
    record { to = entry t k k.first; brings = λ held. 0 }
    ∷ joined_from 0 k.statements (λ p. ways_from t k mode flow given (k.statement_copy p) (k.statement_at p))

-- "Held: the greatest sets of locks before each statement" under the rules above
unfoldable pub held_sets : Table → Layout → Bool → List ℕ → List ℕ → List ℕ
held_sets t k mode flow given = greatest (all_locks t) k.statements (all_ways t k mode flow given)

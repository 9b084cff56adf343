-- "Effect of a routine: its reads and writes of cells by flow sets, with those of all it CALLs or STARTs. The effect of a CALL or START statement
-- is that of the routine it names." And the locks that a GIVE in a routine, or in what it reaches by CALLs, has in its flow set.
-- Lists of sets, one for each copy. Assumes nothing.
use Rattle.std.specs.Prelude.{ℕ, Bool, List, [], ◌∷◌, get_or}
use Rattle.sets.specs.Set.{union}
use Rattle.sets.specs.Least.{Edge, plain, least}
use Rattle.table.specs.Table.{Table, routine, statement}
use Rattle.table.specs.Tabulate.{tabulate}
use Rattle.table.specs.View.{view, set_on, list_on, calls}
use Rattle.report.specs.Over.{joined_from, union_from}
use Rattle.report.specs.Layout.{Layout}
use Rattle.report.specs.Operations.{accessed, given}
use Rattle.report.specs.Flow.{flow_at}

-- the union over the statements of copy c
unfoldable pub over_copy : Table → Layout → (ℕ → ℕ) → ℕ → ℕ
over_copy t k f c = union_from (routine t (k.routine_of c)).first (routine t (k.routine_of c)).count f

-- from the copy that a CALL or START leads to, to the copy that it stands in
unfoldable pub up_from : Layout → ℕ → Edge
up_from k p = plain (k.leads (k.statement_copy p) (k.statement_at p)) (k.statement_copy p)

-- up every CALL and every START
unfoldable pub naming_edges : Table → Layout → List Edge
naming_edges t k =
    joined_from 0 k.statements (λ p. list_on (view (statement t (k.statement_at p))).names (λ q. up_from k p ∷ []))

-- up every CALL
unfoldable pub call_edges : Table → Layout → List Edge
call_edges t k = joined_from 0 k.statements (λ p. list_on (calls (view (statement t (k.statement_at p)))) (λ q. up_from k p ∷ []))

-- the reads or the writes of each copy
unfoldable pub effects : Table → Layout → List ℕ → Bool → List ℕ
effects t k flow w =
    least (naming_edges t k) (tabulate k.copies (λ c. over_copy t k (λ s. accessed w (flow_at k flow c) (statement t s)) c))

-- the locks that each copy may give up
unfoldable pub gives : Table → Layout → List ℕ → List ℕ
gives t k flow =
    least (call_edges t k) (tabulate k.copies (λ c. over_copy t k (λ s. given (flow_at k flow c) (statement t s)) c))

-- the effect of statement s of copy c: its own reads or writes, or those of the routine that it names
unfoldable pub effect_of : Table → Layout → List ℕ → List ℕ → Bool → ℕ → ℕ → ℕ
effect_of t k flow effect w c s =
    union (accessed w (flow_at k flow c) (statement t s)) (set_on (view (statement t s)).names (λ q. get_or effect (k.leads c s) 0))

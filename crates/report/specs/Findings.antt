-- What the report says of a cell and of a GIVE, from the sets. Assumes nothing.
use Rattle.std.specs.Prelude.{ℕ, Bool, false, true, cond, not, ◌&&◌, ◌||◌, List, get_or, length}
use Rattle.sets.specs.Set.{has, union, inter, subset, is_empty, is_single}
use Rattle.table.specs.Table.{Table, statement}
use Rattle.table.specs.Tabulate.{tabulate}
use Rattle.table.specs.View.{view, set_on, test_on, on_or, starts}
use Rattle.table.specs.declared.Statement.{Statement}
use Rattle.report.specs.Over.{union_from, inter_from, count_from, union_at}
use Rattle.report.specs.Layout.{Layout}
use Rattle.report.specs.Operations.{reading, writing, accessed}
use Rattle.report.specs.Flow.{flow_at, flow_sets}
use Rattle.report.specs.Effect.{effects, gives}
use Rattle.report.specs.Held.{all_locks, held_sets}
use Rattle.report.specs.Future.{futures}
use Rattle.report.specs.Preceded.{reach_sets, preceded_sets, is_preceded}

-- all sets of a table: flow by handle; reads, writes and given locks by copy; the locks surely held in either way, and those surely held for writing, and
-- the futures by statement; whether a START is reached, by copy, and whether one can precede, by statement
pub record Sets : Type 0 where
  pub flow : List ℕ
  pub reads : List ℕ
  pub writes : List ℕ
  pub given : List ℕ
  pub held : List ℕ
  pub held_to_write : List ℕ
  pub future_reads : List ℕ
  pub future_writes : List ℕ
  pub reach : List ℕ
  pub preceded : List ℕ

-- each is computed once, out of those before it
unfoldable pub sets_of : Table → Layout → Sets
sets_of t k =
    let flow = flow_sets t k in
    let reads = effects t k flow reading in
    let writes = effects t k flow writing in
    let given = gives t k flow in
    let reach = reach_sets t k in
    record {
      flow = flow;
      reads = reads;
      writes = writes;
      given = given;
      held = held_sets t k false flow given;
      held_to_write = held_sets t k true flow given;
      future_reads = futures t k flow reads reading;
      future_writes = futures t k flow writes writing;
      reach = reach;
      preceded = preceded_sets t k reach;
    }

-- ---- shared

-- the cells that both of two effects touch and one of them writes
unfoldable pub clash : ℕ → ℕ → ℕ → ℕ → ℕ
clash reads writes other_reads other_writes =
    inter (inter (union reads writes) (union other_reads other_writes)) (union writes other_writes)

-- "A cell is shared if at some START the effect of the started routine and the future of that START both touch it and one of them writes it"
unfoldable pub shared_at : Table → Layout → Sets → ℕ → ℕ
shared_at t k a p =
    let d = k.leads (k.statement_copy p) (k.statement_at p) in
    set_on (starts (view (statement t (k.statement_at p))))
    (λ q. clash (get_or a.reads d 0) (get_or a.writes d 0) (get_or a.future_reads p 0) (get_or a.future_writes p 0))

-- all shared cells
unfoldable pub shared_cells : Table → Layout → Sets → ℕ
shared_cells t k a = union_from 0 k.statements (shared_at t k a)

-- ---- common locks

-- the cells that the statement at a place reads or writes itself
unfoldable pub own_access : Table → Layout → Sets → Bool → ℕ → ℕ
own_access t k a w p = accessed w (flow_at k a.flow (k.statement_copy p)) (statement t (k.statement_at p))

-- the statement at a place is an access of cell x
unfoldable pub touches_at : Table → Layout → Sets → ℕ → ℕ → Bool
touches_at t k a x p = has (own_access t k a reading p) x || has (own_access t k a writing p) x

-- C-13: "Leave an access out of the common locks if no START can precede it": the statement at a place is a counted access of cell x
unfoldable pub counted_at : Table → Layout → Sets → ℕ → ℕ → Bool
counted_at t k a x p = touches_at t k a x p && is_preceded k a.preceded p

-- what an access at a place has to hold, as C-18 has it: "surely held for writing at each counted WRITE and surely held either way at each counted READ"
unfoldable pub own_held : Table → Layout → Sets → ℕ → ℕ
own_held t k a p = on_or (view (statement t (k.statement_at p))).writes (λ h. get_or a.held_to_write p 0) (get_or a.held p 0)

-- so at each place
unfoldable pub own_holds : Table → Layout → Sets → List ℕ
own_holds t k a = tabulate k.statements (own_held t k a)

-- "Common locks of a cell: the intersection of the held sets of all its access statements; all locks if there are none", those that are counted
unfoldable pub common_locks : Table → Layout → Sets → ℕ → ℕ
common_locks t k a x =
    inter_from (all_locks t) 0 k.statements (λ p. cond (counted_at t k a x p) (own_held t k a p) (all_locks t))

-- unguarded: shared, and no lock is common
unfoldable pub is_unguarded : ℕ → ℕ → ℕ → Bool
is_unguarded shared common x = has shared x && is_empty common

-- ---- stray

-- "A GIVE is stray unless its flow set is one lock that is held there", C-18: "surely held either way"
unfoldable pub stray_by : (ℕ → ℕ) → ℕ → Statement → Bool
stray_by flow held σ = test_on (view σ).gives (λ h. not (is_single (flow h) && subset (flow h) held))

-- the statement at a place is a stray GIVE
unfoldable pub stray_at : Table → Layout → Sets → ℕ → Bool
stray_at t k a p = stray_by (flow_at k a.flow (k.statement_copy p)) (get_or a.held p 0) (statement t (k.statement_at p))

-- ---- by statements of the table

-- the cells that statement s reads, or writes, itself in some copy
unfoldable pub statement_access : Table → Layout → Sets → Bool → ℕ → ℕ
statement_access t k a w s = union_at (k.places_of s) (own_access t k a w)

-- "reading statements, writing statements": how many statements read, or write, cell x; for all cells in one walk: Counts
unfoldable pub access_count : Table → Layout → Sets → Bool → ℕ → ℕ
access_count t k a w x = count_from 0 (length t.statements) (λ s. has (statement_access t k a w s) x)

-- statement s is a stray GIVE in some copy
unfoldable pub is_stray : Table → Layout → Sets → ℕ → Bool
is_stray t k a s = has (union_at (k.places_of s) (λ p. cond (stray_at t k a p) 1 0)) 0

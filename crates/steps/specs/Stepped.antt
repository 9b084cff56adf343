-- What a step of the engine asks and leaves. Assumes nothing.
use Rattle.std.specs.Prelude.{ℕ, ◌<◌, ◌≡◌, List, ◌++◌, ℤ, length, get_or, set, drop, Some, None, Ok, Err}
use Rattle.table.specs.Table.{Table, table_of, statement_of}
use Rattle.table.specs.declared.Statement.{Statement}
use Rattle.machine.specs.State.{State}
use Rattle.machine.specs.Step.{after}
use Rattle.machine.specs.Engine.{engine_step, engine_run, answers}
use Rattle.run_state.specs.declared.State as Run
use Rattle.run_state.specs.Shown.{Arrays, parts_of, user, ShowsBounded, ListsShow, Standing}
use Rattle.operations.specs.declared.place.Place.{Place}
use Rattle.operations.specs.declared.TurnedDown.TheVariants.{Stopped}
use Rattle.operations.specs.Operation.{Newest, Move}
use Rattle.operations.specs.Step.{Step, numbered, step_of}

-- a step of thread n: the answer and the state after it are the engine's
pub record Stepped (t : Table) (new : Arrays) (state : State) (n : ℕ) (step : Step) : Type 0 where
  pub answered : numbered step ≡ step_of t state (user n)
  pub shows : ShowsBounded t new (after state (engine_step t state (user n)))

-- of every state that a run's state shows before, what a step of thread n leaves
abbrev pub Steps : Table → Run.State → Run.State → ℕ → Step → Type 0
Steps t s s' n step = (state : State) → ListsShow t s state → Stepped t (parts_of t s') state n step

-- a schedule's steps: one answer for each in the first places of a list, the rest of it as it was, and the engine's state after them
pub record Followed (t : Table) (s : Run.State) (schedule lent lent' : List ℕ) (state : State) : Type 0 where
  pub answered : lent' ≡ answers t state schedule ++ drop (length schedule) lent
  pub shows : ListsShow t s (engine_run t state schedule)

-- of every state that a run's state shows before, what the steps of a schedule leave
abbrev pub Follows : Table → Run.State → Run.State → List ℕ → List ℕ → List ℕ → Type 0
Follows t s s' schedule lent lent' = (state : State) → ListsShow t s state → Followed t s' schedule lent lent' state

-- a thread that is at a statement of its newest frame
pub record Here (numbers : List ℤ) (s : Run.State) (at : Place) (σ : Statement) : Type 0 where
  pub standing : Standing (table_of numbers) s
  pub low : at.thread < s.started
  pub newest : Newest at (get_or s.counts at.thread 0)
  pub next_is : at.next ≡ get_or s.nexts at.slot 0
  pub statement_is : σ ≡ statement_of numbers at.next

-- a run's state after an operation, with the store of its frame's next statement
abbrev pub stored : ℕ → Move → Run.State → Run.State
stored slot (Ok (Some x)) s = record s { nexts = set s.nexts slot x }
stored slot (Ok None) s = s
stored slot (Err why) s = s

-- a statement that can be stored
abbrev pub Storable : Move → Type 0
Storable (Ok (Some x)) = x < 4294967296
Storable (Ok None) = Unit {0}
Storable (Err why) = Unit {0}

-- the answer to a step at a statement, by what its operation left
abbrev pub answer_by : Move → Statement → Step
answer_by (Ok (Some x)) σ = Ok σ
answer_by (Ok None) σ = Ok σ
answer_by (Err why) σ = Err (Stopped σ why)

-- an operation, to be followed by that store
pub record Operated (t : Table) (s s' : Run.State) (at : Place) (σ : Statement) (r : Move) : Type 0 where
  pub storable : Storable r
  pub steps : Steps t s (stored at.slot r s') at.thread (answer_by r σ)

-- C-22, "A reading stays put while guarded": from a text and a line 51 of its report, as printed, to the values of the cell, in every order of steps. Assumes nothing.
use Rattle.std.specs.Prelude.{ℕ, ◌≡◌, true, List, [], ◌∷◌, ◌++◌}
use Rattle.sets.specs.Set.{has}
use Rattle.table.specs.Table.{Table}
use Rattle.machine.specs.State.{State, thread, start}
use Rattle.machine.specs.Step.{Answer, run_by}
use Rattle.machine.specs.Words.{Holds}
use Rattle.machine.specs.Stretch.{Gets, Reads, Keeps, WritesNot, StaysPut}
use Rattle.report.specs.Report.{report_text, Says51}
use Rattle.guarantee.specs.Demand.{table_in}

-- what holds of every cell x and every lock k that a line 51 of the text's report, as printed, has among the cell's common locks
abbrev pub EachCommon : List ℕ → (ℕ → ℕ → Type 0) → Type 0
EachCommon text P =
    (x reads writes shared common unguarded k : ℕ) → Says51 (report_text (table_in text)) x reads writes shared common unguarded → has common k ≡ true → P x k

-- C-22, where steps are answered by `by`
module _ (text : List ℕ) (by : Table → State → ℕ → Answer) where
  abbrev t : Table
  t = table_in text

  -- lock k guards readings of cell x: after every list of thread numbers, from the TAKE or TAKER by which a thread m gets the lock, and over every list of steps during
  -- which it does not give it up, no step of another thread changes the cell
  abbrev pub Guards : ℕ → ℕ → Type 0
  Guards x k =
      (ns : List ℕ) (m : ℕ) (taken : State) → Gets t (by t) k (run_by (by t) (start t) ns) m taken → (later : List ℕ) → Keeps t (by t) m k taken later
      → StaysPut t (by t) m x taken later

  -- the step form: after every list of thread numbers, while a thread m holds the lock, no next step of another thread changes the cell
  abbrev pub GuardsNext : ℕ → ℕ → Type 0
  GuardsNext x k =
      (ns : List ℕ) (m : ℕ) → Holds (run_by (by t) (start t) ns) m k → (n : ℕ) → StaysPut t (by t) m x (run_by (by t) (start t) ns) (n ∷ [])

  -- "Customers read a cell twice under its lock and compare": from the TAKE or TAKER on, and while the lock is not given up, two READs of its holder between which it
  -- does not WRITE the cell itself get the same value
  abbrev pub ReadsTheSame : ℕ → ℕ → Type 0
  ReadsTheSame x k =
      (ns : List ℕ) (m : ℕ) (taken : State) → Gets t (by t) k (run_by (by t) (start t) ns) m taken → (first between : List ℕ) (one other : State)
      → Keeps t (by t) m k taken (first ++ m ∷ between) → Reads t (by t) x (run_by (by t) taken first) m one → WritesNot t (by t) m x one between
      → Reads t (by t) x (run_by (by t) one between) m other → (thread one m).accumulator ≡ (thread other m).accumulator

-- all of it
pub record Steady (text : List ℕ) (by : Table → State → ℕ → Answer) (x k : ℕ) : Type 0 where
  pub guards : Guards text by x k
  pub guards_next : GuardsNext text by x k
  pub reads_the_same : ReadsTheSame text by x k

-- How a run's state shows a state of the machine. Nothing that a promise of `engine::run` says rests on it. Assumes nothing.
use Rattle.std.specs.Prelude.{ℕ, ◌+◌, ◌-◌, ◌*◌, ◌%◌, ◌<◌, ◌≤◌, ◌≡◌, cond, List, [], ◌∷◌, map, eqb, ℤ, pos, length, get_or}
use Rattle.table.specs.Table.{Table, table_of, declaration, passed, OwnHandle}
use Rattle.table.specs.declared.Arguments.{Arguments}
use Rattle.sets.specs.Set.{one, with}
use Rattle.machine.specs.State.{State, Frame, Thread, Holder, writer, readers, free, thread, refers}
use Rattle.machine.specs.Engine.{frame_slots}
use Rattle.machine.proofs.FrameLaws.{Bounded}
use Rattle.run_state.specs.declared.State as Run
use Rattle.run_state.specs.Lists.{locks_in, cells_in}

-- what it holds of a table: how many threads are started; each slot's next statement and its values, eight a slot; each thread's frame count and
-- accumulator; each lock's word; the cells
pub record Arrays : Type 0 where
  pub started : ℕ
  pub nexts : List ℕ
  pub values : List ℕ
  pub counts : List ℕ
  pub accumulators : List ℤ
  pub locks : List ℕ
  pub cells : List ℤ

abbrev pub arrays : ℕ → List ℕ → List ℕ → List ℕ → List ℤ → List ℕ → List ℤ → Arrays
arrays started nexts values counts accumulators locks cells =
    record { started = started; nexts = nexts; values = values; counts = counts; accumulators = accumulators; locks = locks; cells = cells }

-- what the state of a run holds of a table
abbrev pub parts_of : Table → Run.State → Arrays
parts_of t s = arrays s.started s.nexts s.values s.counts s.accumulators (locks_in t.locks s) (cells_in t.cells s)

-- the machine's thread that has thread number n in the run: "takes the next thread number"
abbrev pub user : ℕ → ℕ
user n = n

-- where handle h's value stands in a slot
abbrev pub value_place : ℕ → ℕ → ℕ
value_place slot h = slot * 8 + h % 8

-- a lock's word is a set of thread numbers: reader n is element n, writer n is element 16 + n; 0 is nobody
abbrev pub readers_word : List ℕ → ℕ
readers_word [] = 0
readers_word (m ∷ ms) = with (readers_word ms) m

abbrev pub word_of : Holder → ℕ
word_of (writer m) = one (16 + m)
word_of (readers ms) = readers_word ms

-- who holds a lock has an element in its word
abbrev pub AllLow : List ℕ → Type 0
AllLow [] = Unit {0}
AllLow (m ∷ ms) = (m < 16) × AllLow ms

abbrev pub Low : Holder → Type 0
Low (writer m) = m < 16
Low (readers ms) = AllLow ms

-- the locks' words show who holds each
pub record ShowsLocks (words : List ℕ) (locks : List Holder) : Type 0 where
  pub words_are : words ≡ map word_of locks
  pub low : (k : ℕ) → Low (get_or locks k free)

-- a slot shows a frame
pub record ShowsFrame (t : Table) (nexts values : List ℕ) (slot : ℕ) (f : Frame) : Type 0 where
  pub next_is : get_or nexts slot 0 ≡ f.next
  pub long : length f.values ≡ length t.handles
  pub value_is : (h : ℕ) → OwnHandle t f.routine h → get_or values (value_place slot h) 0 ≡ refers f h

-- slots from `base` on show a thread's frames, the oldest first
abbrev pub ShowsFrames : Table → List ℕ → List ℕ → ℕ → List Frame → Type 0
ShowsFrames t nexts values base [] = Unit {0}
ShowsFrames t nexts values base (f ∷ older) = ShowsFrame t nexts values (base + length older) f × ShowsFrames t nexts values base older

pub record ShowsThread (t : Table) (nexts values : List ℕ) (base count : ℕ) (a : ℤ) (shown : Thread) : Type 0 where
  pub count_is : count ≡ length shown.frames
  pub few : count ≤ frame_slots
  pub accumulator_is : a ≡ shown.accumulator
  pub frames : ShowsFrames t nexts values base shown.frames

-- the parts have their lengths
pub record Lengths (t : Table) (a : Arrays) : Type 0 where
  pub nexts : length a.nexts ≡ 512
  pub values : length a.values ≡ 4096
  pub counts : length a.counts ≡ 16
  pub accumulators : length a.accumulators ≡ 16
  pub cells : length a.cells ≡ t.cells

pub record Shows (t : Table) (a : Arrays) (state : State) : Type 0 where
  pub lengths : Lengths t a
  pub started_is : a.started ≡ length state.threads
  pub most : a.started ≤ 16
  pub cells_are : state.cells ≡ a.cells
  pub locks_are : ShowsLocks a.locks state.locks
  pub thread_is : (m : ℕ) → m < a.started → ShowsThread t a.nexts a.values (m * 32) (get_or a.counts m 0) (get_or a.accumulators m (pos 0)) (thread state (user m))

-- the parts show a state of the machine in which no thread's frames can run out of slots
pub record ShowsBounded (t : Table) (a : Arrays) (state : State) : Type 0 where
  pub shows : Shows t a state
  pub bounded : Bounded t state

-- a run's state shows a state of the machine, in a run of the table
abbrev pub ListsShow : Table → Run.State → State → Type 0
ListsShow t s state = ShowsBounded t (parts_of t s) state

-- a run's state that shows some state of the machine
pub record Standing (t : Table) (s : Run.State) : Type 0 where
  pub state : State
  pub shows : ListsShow t s state

-- the lines of the handles are there
abbrev pub HandlesThere : List ℤ → Type 0
HandlesThere numbers = 8 * length (table_of numbers).handles + 8 ≤ length numbers

-- what handle h refers to in a new frame: as a parameter what handle g does in the frame in slot `caller`, as a local its start
unfoldable pub entry_value : Table → List ℕ → ℕ → ℕ → ℕ → ℕ
entry_value t values caller g h = cond (eqb (declaration t h).origin 0) (get_or values (value_place caller g) 0) (declaration t h).start

-- what handle h refers to in a new frame, with arguments from the frame in slot `caller`
abbrev pub start_value : Table → List ℕ → ℕ → ℕ → Arguments → ℕ → ℕ
start_value t values caller from arguments h = entry_value t values caller (get_or (passed arguments) (h - from) 0) h

-- a new frame's values: the handles `from` to `end` are set in `slot`, all else is kept
pub record Entered (t : Table) (values new : List ℕ) (slot caller from end : ℕ) (arguments : Arguments) : Type 0 where
  pub long : length new ≡ length values
  pub set_here : (h : ℕ) → from ≤ h → h < end → get_or new (value_place slot h) 0 ≡ start_value t values caller from arguments h
  pub kept_below : (i : ℕ) → i < slot * 8 → get_or new i 0 ≡ get_or values i 0
  pub kept_above : (i : ℕ) → slot * 8 + 8 ≤ i → get_or new i 0 ≡ get_or values i 0

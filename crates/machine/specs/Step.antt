-- One step of the machine and a run of steps. Assumes nothing.
use Rattle.std.specs.Prelude.{ℕ, ◌+◌, Bool, false, cond, List, [], ◌∷◌, ◌++◌, eqb, ltb, ℤ, pos, negsuc, ◌+ℤ◌, get_or, length, set}
use Rattle.std.specs.Int.Signed.{lt_z}
use Rattle.table.specs.Table.{Table, statement}
use Rattle.table.specs.declared.Statement.{Statement}
use Rattle.table.specs.declared.Statement.TheVariants.{Read, Write, Set, Add, Take, Give, Point, Call, Start, Jump, JumpZero, Return, TakeRead}
use Rattle.machine.specs.State.{State, Frame, Holder, writer, readers, free, among, without, thread, holder, refers, opened}

-- what a step answers: the state after it, or the number of a refusal
pub data Answer : Type 0 where
  moved : State → Answer
  refused : ℕ → Answer

-- a sum that "stops at 2,147,483,647 and at -2,147,483,648" (document 02, C-17)
unfoldable pub saturate : ℤ → ℤ
saturate z = cond (lt_z (pos 2147483647) z) (pos 2147483647) (cond (lt_z z (negsuc 2147483647)) (negsuc 2147483647) z)

-- "the accumulator is zero"
abbrev pub is_zero : ℤ → Bool
is_zero (pos k) = eqb k 0
is_zero (negsuc k) = false

-- what becomes of a lock that a thread asks for or gives up: who holds it then, or the number of a refusal
pub data Turn : Type 0 where
  passes : Holder → Turn
  stops : ℕ → Turn

-- TAKE of thread n: "the free lock becomes this thread's"; 16: it "waits while anybody holds it" (document 02, C-18)
abbrev pub taking : ℕ → Holder → Turn
taking n (writer m) = stops 16
taking n (readers []) = passes (writer n)
taking n (readers (m ∷ ms)) = stops 16

-- TAKER (C-18): "takes a lock for reading. It waits (16) while a thread holds the lock for writing or this thread holds it at all"
abbrev pub reading : ℕ → Holder → Turn
reading n (writer m) = stops 16
reading n (readers ms) = cond (among n ms) (stops 16) (passes (readers (n ∷ ms)))

-- GIVE: it "ends either hold" (C-18); 17: "GIVE finds its lock not held by this thread"
abbrev pub giving : ℕ → Holder → Turn
giving n (writer m) = cond (eqb m n) (passes free) (stops 17)
giving n (readers ms) = cond (among n ms) (passes (readers (without n ms))) (stops 17)

-- the frame with another next statement
abbrev pub going : Frame → ℕ → Frame
going f s = record { routine = f.routine; next = s; values = f.values }

-- the frame with another value of handle h
abbrev pub pointing : Frame → ℕ → ℕ → Frame
pointing f h x = record { routine = f.routine; next = f.next; values = set f.values h x }

-- the state with thread n's accumulator and frames, the cells and the locks as given
abbrev pub with_thread : State → ℕ → ℤ → List Frame → List ℤ → List Holder → State
with_thread state n a frames cells locks =
    record { threads = set state.threads n (record { accumulator = a; frames = frames }); cells = cells; locks = locks }

-- the table of operations: the step of thread n, with its accumulator, its newest frame and its older ones, by the statement
module _ (t : Table) (state : State) (n : ℕ) (a : ℤ) (f : Frame) (older : List Frame) where
  -- the thread goes on after the statement with accumulator b
  abbrev pub goes_on : ℤ → List ℤ → List Holder → State
  goes_on b cells locks = with_thread state n b (going f (f.next + 1) ∷ older) cells locks

  -- the thread goes to statement s
  abbrev pub goes_to : ℕ → State
  goes_to s = with_thread state n a (going f s ∷ older) state.cells state.locks

  -- the thread goes on where its turn at lock k passes
  abbrev pub turned : ℕ → Turn → Answer
  turned k (passes new) = moved (goes_on a state.cells (set state.locks k new))
  turned k (stops number) = refused number

  unfoldable pub operate : Statement → Answer
  -- READ: "accumulator becomes the cell's value"
  operate (Read h) = moved (goes_on (get_or state.cells (refers f h.number) (pos 0)) state.cells state.locks)
  -- WRITE: "cell becomes the accumulator"
  operate (Write h) = moved (goes_on a (set state.cells (refers f h.number) a) state.locks)
  -- SET: "accumulator becomes it"
  operate (Set number) = moved (goes_on number state.cells state.locks)
  -- ADD: "added", and "stops at 2,147,483,647 and at -2,147,483,648"
  operate (Add number) = moved (goes_on (saturate (a +ℤ number)) state.cells state.locks)
  -- TAKE: "the free lock becomes this thread's"
  operate (Take h) = turned (refers f h.number) (taking n (holder state (refers f h.number)))
  -- GIVE: "ends either hold"
  operate (Give h) = turned (refers f h.number) (giving n (holder state (refers f h.number)))
  -- POINT: "h refers to what g refers to"
  operate (Point h g) =
      moved (with_thread state n a (pointing (going f (f.next + 1)) h.number (refers f g.number) ∷ older) state.cells state.locks)
  -- CALL: "opens a frame"; "a call keeps the accumulator"
  operate (Call r arguments) =
      moved (with_thread state n a (opened t r f.values arguments ∷ going f (f.next + 1) ∷ older) state.cells state.locks)
  -- START: "adds a thread"; it "has accumulator 0 and takes the next thread number"
  operate (Start r arguments) =
      moved
      (record {
        threads = (goes_on a state.cells state.locks).threads ++ record { accumulator = pos 0; frames = opened t r f.values arguments ∷ [] } ∷ [];
        cells = state.cells;
        locks = state.locks;
      })
  -- JUMP: "goes there"
  operate (Jump s) = moved (goes_to s.statement)
  -- JUMPZ: "goes there if the accumulator is zero, else on"
  operate (JumpZero s) = moved (goes_to (cond (is_zero a) s.statement (f.next + 1)))
  -- RETURN: "closes the frame; the last one ends the thread"
  operate Return = moved (with_thread state n a older state.cells state.locks)
  -- TAKER: "takes a lock for reading"
  operate (TakeRead h) = turned (refers f h.number) (reading n (holder state (refers f h.number)))

-- 15: "The thread has ended"; else the statement of its newest frame
unfoldable pub stepped : Table → State → ℕ → ℤ → List Frame → Answer
unfolding operate
stepped t state n a [] = refused 15
stepped t state n a (f ∷ older) = operate t state n a f older (statement t f.next)

-- "Given a thread number, any whole number from 0, the machine runs that thread's next statement once"; 14: "The thread number is not started"
unfoldable pub step : Table → State → ℕ → Answer
unfolding stepped
step t state n =
    let run = stepped t state n (thread state n).accumulator (thread state n).frames in
    cond (ltb n (length state.threads)) run (refused 14)

-- "it refuses a step for 14 to 17 alone and then stays as it is"
abbrev pub after : State → Answer → State
after state (moved new) = new
after state (refused number) = state

-- the state after a list of thread numbers
unfoldable pub run : Table → State → List ℕ → State
unfolding step
run t state [] = state
run t state (n ∷ ns) = run t (after state (step t state n)) ns

-- the state after a list of thread numbers, each step answered by `by`
unfoldable pub run_by : (State → ℕ → Answer) → State → List ℕ → State
run_by by state [] = state
run_by by state (n ∷ ns) = run_by by (after state (by state n)) ns

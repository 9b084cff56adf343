-- What a step of the engine is answered with, by its number too. Assumes nothing.
use Rattle.std.specs.Prelude.{ℕ, cond, List, [], ◌∷◌, eqb, Result, Ok, Err}
use Rattle.table.specs.Table.{Table, statement}
use Rattle.table.specs.declared.Statement.{Statement}
use Rattle.machine.specs.State.{State, Frame, thread}
use Rattle.machine.specs.Engine.{engine_step, answer}
use Rattle.operations.specs.declared.Stop.{Stop}
use Rattle.operations.specs.declared.Stop.TheVariants.{Held, NotHeld, Full}
use Rattle.operations.specs.declared.TurnedDown.{TurnedDown}
use Rattle.operations.specs.declared.TurnedDown.TheVariants.{NotStarted, Ended, Stopped}

-- 16: "TAKE finds its lock held"; 17: "GIVE finds its lock not held by this thread"; 18: "START finds 16 threads started"
abbrev pub stop_number : Stop → ℕ
stop_number Held = 16
stop_number NotHeld = 17
stop_number Full = 18

-- 14: "The thread number is not started"; 15: "The thread has ended"
abbrev pub refusal_number : TurnedDown → ℕ
refusal_number NotStarted = 14
refusal_number Ended = 15
refusal_number (Stopped statement why) = stop_number why

-- what a step is answered with: the statement that ran, or why none did
abbrev pub Step : Type 0
Step = Result Statement TurnedDown

-- the same by its number, whatever that is: the statement that ran, the number and the statement that was turned down, or the number where there is no statement
pub data Numbered : Type 0 where
  Ran : Statement → Numbered
  Refused : ℕ → Statement → Numbered
  Nothing : ℕ → Numbered

abbrev pub numbered : Step → Numbered
numbered (Ok statement) = Ran statement
numbered (Err NotStarted) = Nothing 14
numbered (Err Ended) = Nothing 15
numbered (Err (Stopped statement why)) = Refused (stop_number why) statement

-- "one answer byte for each (0 when the step ran)": the number of a step's answer
abbrev pub number_of : Numbered → ℕ
number_of (Ran statement) = 0
number_of (Refused number statement) = number
number_of (Nothing number) = number

-- the answer to a step at a statement, with the number 0 or that of a refusal
abbrev pub answered_at : ℕ → Statement → Numbered
answered_at number statement = cond (eqb number 0) (Ran statement) (Refused number statement)

-- the answer to a step of a thread with these frames: "A thread's next statement is that of its newest frame; an ended thread has none"
abbrev pub case_of : Table → ℕ → List Frame → Numbered
case_of t number [] = Nothing number
case_of t number (f ∷ older) = answered_at number (statement t f.next)

-- the answer to a step of thread n
unfoldable pub step_of : Table → State → ℕ → Numbered
step_of t state n = case_of t (answer (engine_step t state n)) (thread state n).frames

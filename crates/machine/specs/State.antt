-- The state of a run and where a run begins. Assumes nothing.
use Rattle.std.specs.Prelude.{ℕ, ◌-◌, Bool, false, cond, ◌||◌, List, [], ◌∷◌, eqb, ℤ, pos, get_or, length, replicate}
use Rattle.table.specs.Table.{Table, declaration, routine, passed}
use Rattle.table.specs.Tabulate.{tabulate}
use Rattle.table.specs.declared.Arguments.{Arguments}

-- "A frame has its routine, next statement and handle values": one value for each handle of the table, 0 for the handles of other routines
pub record Frame : Type 0 where
  pub routine : ℕ
  pub next : ℕ
  pub values : List ℕ

-- "A thread has a signed 32-bit accumulator and frames", the newest first; an ended thread has no frames
pub record Thread : Type 0 where
  pub accumulator : ℤ
  pub frames : List Frame

-- who holds a lock (C-18): one thread for writing, or some for reading
pub data Holder : Type 0 where
  writer : ℕ → Holder
  readers : List ℕ → Holder

-- a lock that nobody holds
abbrev pub free : Holder
free = readers []

-- thread n is among these
abbrev pub among : ℕ → List ℕ → Bool
among n [] = false
among n (m ∷ ms) = eqb m n || among n ms

-- these without thread n
abbrev pub without : ℕ → List ℕ → List ℕ
without n [] = []
without n (m ∷ ms) = cond (eqb m n) (without n ms) (m ∷ without n ms)

-- thread n holds the lock: for writing (true), or in either way (false)
abbrev pub holds_in : Bool → Holder → ℕ → Bool
holds_in w (writer m) n = eqb m n
holds_in w (readers ms) n = cond w false (among n ms)

-- the threads that were started, each by its number (so the next number is how many there are), the cells' values, and who holds each lock
pub record State : Type 0 where
  pub threads : List Thread
  pub cells : List ℤ
  pub locks : List Holder

-- what a thread number that is not started reads as
abbrev pub ended : Thread
ended = record { accumulator = pos 0; frames = [] }

-- thread n
abbrev pub thread : State → ℕ → Thread
thread state n = get_or state.threads n ended

-- who holds lock k
abbrev pub holder : State → ℕ → Holder
holder state k = get_or state.locks k free

-- what handle h refers to in a frame
abbrev pub refers : Frame → ℕ → ℕ
refers f h = get_or f.values h 0

-- "at each CALL or START parameters take what the arguments refer to and locals are set afresh": what handle h refers to in a new frame of routine r,
-- for arguments passed by a frame with these values
unfoldable pub entered : Table → ℕ → List ℕ → Arguments → ℕ → ℕ
entered t r values arguments h =
    let d = declaration t h in
    let argument = get_or (passed arguments) (h - (routine t r).handle) 0 in
    cond (eqb d.routine r) (cond (eqb d.origin 0) (get_or values argument 0) d.start) 0

-- a new frame of routine r, at its first statement
unfoldable pub opened : Table → ℕ → List ℕ → Arguments → Frame
opened t r values arguments =
    record {
      routine = r;
      next = (routine t r).first;
      values = tabulate (length t.handles) (entered t r values arguments);
    }

-- "A run begins with thread 0 alone, in routine 0, with cells zero and locks free" (routine 0 has no parameter, so nothing is passed)
unfoldable pub start : Table → State
start t =
    record {
      threads = record { accumulator = pos 0; frames = opened t 0 [] (record { first = 0; second = 0; third = 0; fourth = 0 }) ∷ [] } ∷ [];
      cells = replicate t.cells (pos 0);
      locks = replicate t.locks free;
    }

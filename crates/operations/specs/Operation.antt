-- What the operations ask and leave. Assumes nothing.
use Rattle.std.specs.Prelude.{ℕ, ◌+◌, ◌*◌, ◌<◌, ◌≤◌, ◌≡◌, ◌⊎◌, List, ℤ, pos, get_or, set, Option, Some, Result, Ok, Err}
use Rattle.table.specs.Table.{table_of}
use Rattle.table.specs.Extents.{first_statements, first_handles}
use Rattle.table.specs.declared.Arguments.{Arguments}
use Rattle.machine.specs.Engine.{frame_slots}
use Rattle.run_state.specs.declared.State as Run
use Rattle.run_state.specs.Shown.{Entered}
use Rattle.operations.specs.declared.place.Place.{Place}
use Rattle.operations.specs.declared.Stop.{Stop}
use Rattle.operations.specs.declared.Stop.TheVariants.{Full}

-- the slot is that of its thread's newest frame, of so many that are open
pub record Newest (at : Place) (count : ℕ) : Type 0 where
  pub some : 0 < count
  pub few : count ≤ frame_slots
  pub slot_is : at.slot + 1 ≡ at.thread * 32 + count

-- what an operation leaves: its frame goes to a statement, or is closed; or why it was stopped
abbrev pub Move : Type 0
Move = Result (Option ℕ) Stop

-- the step ran, and its frame goes on
abbrev pub on : Place → Move
on at = Ok (Some (at.next + 1))

-- CALL: the frame goes on, and a new one stands in the next slot
pub record Called (numbers : List ℤ) (routine : ℕ) (arguments : Arguments) (at : Place) (r : Move) (s s' : Run.State) : Type 0 where
  pub answer_is : r ≡ on at
  pub state_is : s'
      ≡ record s {
        nexts = set s.nexts (at.slot + 1) (get_or (first_statements numbers) routine 0);
        counts = set s.counts at.thread (get_or s.counts at.thread 0 + 1);
        values = s'.values;
      }
  pub entered : Entered (table_of numbers) s.values s'.values (at.slot + 1) at.slot (get_or (first_handles numbers) routine 0) (get_or (first_handles numbers) (routine + 1) 0) arguments

-- START: stopped where 16 threads are started, and then nothing changes; else the frame goes on and the next thread has one frame
abbrev pub Started : List ℤ → ℕ → Arguments → Place → Move → Run.State → Run.State → Type 0
Started numbers routine arguments at r s s' =
    record { full : 16 ≤ s.started; answer_is : r ≡ Err Full; state_is : s' ≡ s }
    ⊎ record {
      free : s.started < 16;
      answer_is : r ≡ on at;
      state_is : s'
          ≡ record s {
            started = s.started + 1;
            nexts = set s.nexts (s.started * 32) (get_or (first_statements numbers) routine 0);
            counts = set s.counts s.started 1;
            accumulators = set s.accumulators s.started (pos 0);
            values = s'.values;
          };
      entered : Entered (table_of numbers) s.values s'.values (s.started * 32) at.slot (get_or (first_handles numbers) routine 0) (get_or (first_handles numbers) (routine + 1) 0) arguments;
    }

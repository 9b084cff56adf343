-- The three demands, of the functions that are shipped. Assumes nothing.
--
-- Demand 1: `station_report_packed`, `station_run_packed` and `station_may_load_text` have no `requires` (src/lib.rt): each takes every text, schedule and buffer, and is
-- proved safe and ending; `reported_into`, `answers_left` and `cells_left` leave every buffer of a refused call as it was.
-- Demand 2: their results and buffers are equal to `report_answer` and `reported_into`, `outcome_of`, `answers_left` and `cells_left`, which are the report's and the machine's
-- definitions. The engine's steps are the machine's, as the first law below says.
-- Demand 3: `loaded_machine_safe` and `loaded_engine_safe`; the first of them is also in `loader::may_load`'s contract.
-- C-22: the last two laws; the first of them is also in `loader::may_load`'s contract.
use Rattle.std.specs.Prelude.{◌≡◌, true, List, ℕ, ◌≤◌, length, Ok}
use Rattle.std.proofs.Common.{sym, subst}
use Rattle.table.specs.Verdict.{verdict}
use Rattle.table.proofs.AcceptedLaws.{accepted}
use Rattle.machine.specs.State.{thread, start}
use Rattle.machine.proofs.FrameLaws.{frames_suffice}
use Rattle.machine.specs.Step.{step, run}
use Rattle.machine.specs.Engine.{engine_step, engine_run}
use Rattle.machine.proofs.EngineLaws.{unlimited, engine_runs_as_machine}
use Rattle.machine.specs.Words.{HoldsIn, Holds, Safe}
use Rattle.machine.proofs.LockLaws.{one_writer_or_readers}
use Rattle.analysis.specs.Reported.{table_in, loadable}
use Rattle.guarantee.specs.Reading.{EachCommon, Steady}
use Rattle.loader.specs.LoadLaws.{loadable_safe, loadable_steady, loadable_steady_engine}

-- after any schedule the engine's state is the machine's after the same schedule without the steps answered 18
pub engine_is_machine : (text ns : List ℕ)
    → engine_run (table_in text) (start (table_in text)) ns ≡ run (table_in text) (start (table_in text)) (unlimited (table_in text) (start (table_in text)) ns)
engine_is_machine text ns = engine_runs_as_machine (table_in text) (start (table_in text)) ns

-- C-16, of every accepted text, whatever its report says: after every list of thread numbers, on the machine with no limit, no thread has more than 32 frames
pub accepted_frames_suffice : (text : List ℕ) → verdict text ≡ Ok tt → (ns : List ℕ) (n : ℕ)
    → length (thread (run (table_in text) (start (table_in text)) ns) n).frames ≤ 32
accepted_frames_suffice text e ns n = frames_suffice (accepted text e) ns n

-- C-18, of every text, whatever its report says: after every list of thread numbers a lock has one writer or readers alone
pub one_writer_or_readers_run : (text : List ℕ) (ns : List ℕ) (k m n : ℕ) → HoldsIn true (run (table_in text) (start (table_in text)) ns) m k
    → Holds (run (table_in text) (start (table_in text)) ns) n k → m ≡ n
one_writer_or_readers_run text ns k m n writes holds = one_writer_or_readers (run (table_in text) (start (table_in text)) ns) k m n writes holds

-- a text that may be loaded is safe after every list of thread numbers, on the machine with no limit
pub loaded_machine_safe : (text : List ℕ) → loadable text ≡ true → (ns : List ℕ) → Safe (table_in text) (run (table_in text) (start (table_in text)) ns)
loaded_machine_safe text allowed ns = loadable_safe text allowed ns

-- and in every state that the engine passes
pub loaded_engine_safe : (text : List ℕ) → loadable text ≡ true → (ns : List ℕ) → Safe (table_in text) (engine_run (table_in text) (start (table_in text)) ns)
loaded_engine_safe text allowed ns =
    subst (Safe (table_in text)) (sym (engine_is_machine text ns)) (loadable_safe text allowed (unlimited (table_in text) (start (table_in text)) ns))

-- C-22, of a text that may be loaded and every lock that a line 51 of its report prints as common to a cell: from the TAKE or TAKER by which a thread gets it, over every
-- list of steps during which it does not give it up, no step of another thread changes the cell, and two READs of the holder get the same value
pub loaded_reading_stays_put : (text : List ℕ) → loadable text ≡ true → EachCommon text (Steady text step)
loaded_reading_stays_put text allowed = loadable_steady text allowed

-- and in the engine's runs
pub loaded_engine_reading_stays_put : (text : List ℕ) → loadable text ≡ true → EachCommon text (Steady text engine_step)
loaded_engine_reading_stays_put text allowed = loadable_steady_engine text allowed

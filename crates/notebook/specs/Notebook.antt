-- The starred entries of the trainer's notebook, one table of inputs and results under one statement of the definitions: a table text with what is asked of
-- it, its report or a step, and the numbers that the definitions give. Assumes nothing.
use Rattle.std.specs.Prelude.{ℕ, ◌≡◌, refl, List, [], ◌∷◌, ◌++◌, map, ℤ, pos, negsuc, Ok, Err}
use Rattle.std.specs.Int.Count.{count_trailing_zeros}
use Rattle.table.specs.Table.{Table, table_of}
use Rattle.machine.specs.State.{State, Frame, thread, entered, opened, start}
use Rattle.machine.specs.Step.{step, after, saturate}
use Rattle.machine.specs.Engine.{engine_step, engine_run, answers}
use Rattle.report.specs.Report.{report_lines, text_of}
use Rattle.lines.specs.Line.{numbers_of}
use Rattle.fields.specs.Field.{digits_from, decimal_of, signed_of, spaced_of, field_of, decimal_text, signed_text, field_text}
use Rattle.lines.specs.Line.{fields_of, all_in_field, line_text, pieces}
use Rattle.table.specs.Fields.{unused}
use Rattle.table.specs.Header.{header_ok, length_ok, leading, leading_ok}
use Rattle.table.specs.Handles.{things, handle_fields_ok, same_above, handle_order_ok, parameter_ok, handle_ok}
use Rattle.table.specs.Routines.{routine_ok, sum_ok}
use Rattle.table.specs.Statements.{own_handle, own_of_kind, own_statement, argument_ok, arguments_ok, naming_ok, point_ok, operation_ok, statement_ok, bad_statement, end_ok}
use Rattle.table.specs.Naming.{named_by, gather, names_of, names_in, is_named, walk, reached, is_acyclic}
use Rattle.table.specs.Refusals.{number_of, line_of}
use Rattle.table.specs.Verdict.{Verdict, naming_verdict, statement_verdict, declaration_verdict, numbers_verdict, text_ok, verdict, reading_of}
use Rattle.sets.specs.Set.{with, lowest}
use Rattle.report.specs.Cases.{Case, row, as_computed}
use Rattle.report.specs.Notebook.{notebook}

-- what is asked of a table: its report, what a step of a thread makes of a state, or the engine's answers to a schedule
pub data Question : Type 0 where
  report : Question
  stepped : State → ℕ → Question
  ran : List ℕ → Question

pub record Entry : Type 0 where
  pub lines : List (List ℤ)
  pub question : Question
  pub result : List (List ℤ)

abbrev pub next_of : List Frame → List ℤ
next_of [] = []
next_of (f ∷ fs) = pos f.next ∷ []

-- the report's lines, or the thread's accumulator and next statement after the step, or the answers
unfoldable pub answer : Table → Question → List (List ℤ)
answer t report = report_lines t
answer t (stepped state n) = let new = thread (after state (step t state n)) n in (new.accumulator ∷ next_of new.frames) ∷ []
answer t (ran schedule) = map pos (answers t (start t) schedule) ∷ []

-- an entry's input is a table text: its lines as bytes
abbrev pub text_in : Entry → List ℕ
text_in e = text_of e.lines

-- what is said of a text: the answer, or "50, number, line, five zeros"
abbrev pub said : Verdict → List (List ℤ) → List (List ℤ)
said (Ok u) ls = ls
said (Err r) ls = (pos 50 ∷ pos (number_of r) ∷ pos (line_of r) ∷ pos 0 ∷ pos 0 ∷ pos 0 ∷ pos 0 ∷ pos 0 ∷ []) ∷ []

unfoldable pub computed : List Entry → List (List (List ℤ))
unfolding answer as_computed step saturate answers engine_step start opened entered with lowest digits_from decimal_of signed_of spaced_of field_of decimal_text signed_text field_text fields_of all_in_field line_text pieces unused header_ok length_ok leading leading_ok things handle_fields_ok same_above handle_order_ok parameter_ok handle_ok routine_ok sum_ok own_handle own_of_kind own_statement argument_ok arguments_ok naming_ok point_ok operation_ok statement_ok bad_statement end_ok named_by gather names_of names_in is_named walk reached is_acyclic naming_verdict statement_verdict declaration_verdict numbers_verdict text_ok verdict reading_of text_of
computed [] = []
computed (e ∷ es) = said (verdict (text_in e)) (answer (table_of (numbers_of (text_in e))) e.question) ∷ computed es

abbrev pub results : List Entry → List (List (List ℤ))
results [] = []
results (e ∷ es) = e.result ∷ results es

-- the entries about the report
abbrev pub reported : List Case → List Entry
reported [] = []
reported (c ∷ cs) = record { lines = c.lines; question = report; result = c.report } ∷ reported cs

-- thread 0 alone in routine 0, at statement 0 with this accumulator
abbrev pub at_first : ℤ → State
at_first a = record { threads = record { accumulator = a; frames = record { routine = 0; next = 0; values = [] } ∷ [] } ∷ []; cells = pos 0 ∷ []; locks = [] }

-- ADD of a number, and the accumulator behind it
abbrev pub adds : ℤ → ℤ → ℤ → Entry
adds a number sum = record {
  lines = row 1 1 0 0 1 2 0 0 ∷ row 3 2 0 0 0 0 0 0 ∷ (pos 4 ∷ pos 4 ∷ number ∷ pos 0 ∷ pos 0 ∷ pos 0 ∷ pos 0 ∷ pos 0 ∷ []) ∷ row 4 12 0 0 0 0 0 0 ∷ [];
  question = stepped (at_first a) 0;
  result = (sum ∷ pos 1 ∷ []) ∷ [];
}

-- C-17: "01's wrapping case becomes 2,147,483,647 ADD 1 giving 2,147,483,647"; the other end
abbrev pub sums : List Entry
sums = adds (pos 2147483647) (pos 1) (pos 2147483647) ∷ adds (negsuc 2147483647) (negsuc 0) (negsuc 2147483647) ∷ []

-- "JUMPZ at 0 jumps, at -1 goes on"
abbrev pub jumps : ℤ → ℕ → Entry
jumps a next = record {
  lines = row 1 1 0 0 1 3 0 0 ∷ row 3 3 0 0 0 0 0 0 ∷ row 4 11 2 0 0 0 0 0 ∷ row 4 12 0 0 0 0 0 0 ∷ row 4 12 0 0 0 0 0 0 ∷ [];
  question = stepped (at_first a) 0;
  result = (a ∷ pos next ∷ []) ∷ [];
}

-- ---- C-18, each sentence about the machine

-- thread 0 alone, with the operations a, b and c on its one lock: 5 is TAKE, 6 GIVE, 13 TAKER
abbrev pub alone_on_lock : ℕ → ℕ → ℕ → List (List ℤ)
alone_on_lock a b c =
    row 1 1 1 1 1 4 0 0 ∷ row 2 0 2 1 0 0 0 0 ∷ row 3 4 0 0 0 0 0 0 ∷ row 4 a 0 0 0 0 0 0 ∷ row 4 b 0 0 0 0 0 0 ∷ row 4 c 0 0 0 0 0 0 ∷ row 4 12 0 0 0 0 0 0 ∷ []

abbrev pub alone : ℕ → ℕ → ℕ → List ℤ → Entry
alone a b c answered = record { lines = alone_on_lock a b c; question = ran (0 ∷ 0 ∷ 0 ∷ []); result = answered ∷ [] }

-- thread 0 STARTs routine 1 twice, TAKEs the lock and gives it up; the two take it for reading, and then GIVE it up (6), or end with it (12)
abbrev pub displays : ℕ → ℕ → List ℕ → List ℤ → Entry
displays then operand schedule answered = record {
  lines =
      row 1 1 1 2 2 8 0 0
      ∷ row 2 0 2 1 0 0 0 0
      ∷ row 2 1 2 1 0 0 0 0
      ∷ row 3 5 0 0 0 0 0 0
      ∷ row 3 3 0 0 0 0 0 0
      ∷ row 4 9 1 0 0 0 0 0
      ∷ row 4 9 1 0 0 0 0 0
      ∷ row 4 5 0 0 0 0 0 0
      ∷ row 4 6 0 0 0 0 0 0
      ∷ row 4 12 0 0 0 0 0 0
      ∷ row 4 13 1 0 0 0 0 0
      ∷ row 4 then operand 0 0 0 0 0
      ∷ row 4 12 0 0 0 0 0 0
      ∷ [];
  question = ran schedule;
  result = answered ∷ [];
}

abbrev pub for_reading : List Entry
for_reading =
    -- "Display threads only read and should not wait for one another"
    displays 6 1 (0 ∷ 0 ∷ 1 ∷ 2 ∷ []) (pos 0 ∷ pos 0 ∷ pos 0 ∷ pos 0 ∷ [])
    -- "TAKE waits while anybody holds it": for both readers, and a GIVE ends the one hold alone
    ∷ displays 6 1 (0 ∷ 0 ∷ 1 ∷ 2 ∷ 0 ∷ 1 ∷ 0 ∷ 2 ∷ 0 ∷ []) (pos 0 ∷ pos 0 ∷ pos 0 ∷ pos 0 ∷ pos 16 ∷ pos 0 ∷ pos 16 ∷ pos 0 ∷ pos 0 ∷ [])
    -- TAKER "waits (16) while a thread holds the lock for writing"
    ∷ displays 6 1 (0 ∷ 0 ∷ 0 ∷ 1 ∷ 0 ∷ 1 ∷ []) (pos 0 ∷ pos 0 ∷ pos 0 ∷ pos 16 ∷ pos 0 ∷ pos 0 ∷ [])
    -- "An ended thread keeps its locks", one held for reading too: TAKE waits, TAKER does not
    ∷ displays 12 0 (0 ∷ 0 ∷ 1 ∷ 1 ∷ 0 ∷ 2 ∷ []) (pos 0 ∷ pos 0 ∷ pos 0 ∷ pos 0 ∷ pos 16 ∷ pos 0 ∷ [])
    -- "or this thread holds it at all": for reading, for writing
    ∷ alone 13 13 12 (pos 0 ∷ pos 16 ∷ pos 16 ∷ [])
    ∷ alone 5 13 12 (pos 0 ∷ pos 16 ∷ pos 16 ∷ [])
    -- and TAKE waits for this thread's own reading
    ∷ alone 13 5 12 (pos 0 ∷ pos 16 ∷ pos 16 ∷ [])
    -- "GIVE ends either hold": the second one finds none
    ∷ alone 13 6 6 (pos 0 ∷ pos 0 ∷ pos 17 ∷ [])
    ∷ alone 5 6 6 (pos 0 ∷ pos 0 ∷ pos 17 ∷ [])
    -- "Check 9 accepts operation 13", and not 14
    ∷ alone 13 14 12 (row 50 9 4 0 0 0 0 0)
    ∷ []

abbrev pub entries : List Entry
entries = reported notebook ++ (sums ++ (jumps (pos 0) 2 ∷ jumps (negsuc 0) 1 ∷ for_reading))

pub notebook_holds : computed entries ≡ results entries
unfolding computed count_trailing_zeros
notebook_holds = refl

-- ---- C-22: "Customers read a cell twice under its lock and compare"

-- main sets cell 0 to 100 with no lock, STARTs a thread that adds 1 to it under lock 0, again and again, and takes the lock for reading; it READs cell 0 into cell 1, and
-- behind the lines `between` into cell 2. It has n statements, and both have m
abbrev pub twice : ℕ → ℕ → List (List ℤ) → List (List ℤ)
twice n m between =
    row 1 3 1 6 2 m 0 0
    ∷ row 2 0 1 1 0 0 0 0
    ∷ row 2 0 2 1 0 0 0 0
    ∷ row 2 0 1 1 1 0 0 0
    ∷ row 2 0 1 1 2 0 0 0
    ∷ row 2 1 1 1 0 0 0 0
    ∷ row 2 1 2 1 0 0 0 0
    ∷ row 3 n 0 0 0 0 0 0
    ∷ row 3 6 0 0 0 0 0 0
    ∷ row 4 3 100 0 0 0 0 0
    ∷ row 4 2 0 0 0 0 0 0
    ∷ row 4 9 1 0 0 0 0 0
    ∷ row 4 13 1 0 0 0 0 0
    ∷ row 4 1 0 0 0 0 0 0
    ∷ row 4 2 2 0 0 0 0 0
    ∷ between
    ++ (row 4 1 0 0 0 0 0 0
    ∷ row 4 2 3 0 0 0 0 0
    ∷ row 4 6 1 0 0 0 0 0
    ∷ row 4 12 0 0 0 0 0 0
    ∷ row 4 5 5 0 0 0 0 0
    ∷ row 4 1 4 0 0 0 0 0
    ∷ row 4 4 1 0 0 0 0 0
    ∷ row 4 2 4 0 0 0 0 0
    ∷ row 4 6 5 0 0 0 0 0
    ∷ row 4 10 n 0 0 0 0 0
    ∷ [])

-- the lock held from the first READ to the second, and given up and taken again between them
abbrev pub held : List (List ℤ)
held = twice 10 16 []

abbrev pub given_between : List (List ℤ)
given_between = twice 12 18 (row 4 6 1 0 0 0 0 0 ∷ row 4 13 1 0 0 0 0 0 ∷ [])

-- lock 0 is common to cell 0: the set-up does not count
abbrev pub guarded : List (List ℤ)
guarded = row 51 0 3 2 1 1 0 0 ∷ row 51 1 0 1 0 0 0 0 ∷ row 51 2 0 1 0 0 0 0 ∷ row 59 0 0 0 0 0 0 0 ∷ []

-- what is asked of a table here: what the notebook asks, or the cells that the engine leaves after a schedule
pub data Asked : Type 0 where
  as_before : Question → Asked
  left : List ℕ → Asked

pub record Reading : Type 0 where
  pub lines : List (List ℤ)
  pub question : Asked
  pub result : List (List ℤ)

unfoldable pub reading_answer : Table → Asked → List (List ℤ)
unfolding answer engine_run
reading_answer t (as_before question) = answer t question
reading_answer t (left schedule) = (engine_run t (start t) schedule).cells ∷ []

unfoldable pub readings_computed : List Reading → List (List (List ℤ))
unfolding reading_answer as_computed step engine_run saturate engine_step start opened entered with lowest digits_from decimal_of signed_of spaced_of field_of decimal_text signed_text field_text fields_of all_in_field line_text pieces unused header_ok length_ok leading leading_ok things handle_fields_ok same_above handle_order_ok parameter_ok handle_ok routine_ok sum_ok own_handle own_of_kind own_statement argument_ok arguments_ok naming_ok point_ok operation_ok statement_ok bad_statement end_ok named_by gather names_of names_in is_named walk reached is_acyclic naming_verdict statement_verdict declaration_verdict numbers_verdict text_ok verdict reading_of text_of
readings_computed [] = []
readings_computed (r ∷ rs) =
    said (verdict (text_of r.lines)) (reading_answer (table_of (numbers_of (text_of r.lines))) r.question) ∷ readings_computed rs

abbrev pub readings_results : List Reading → List (List (List ℤ))
readings_results [] = []
readings_results (r ∷ rs) = r.result ∷ readings_results rs

abbrev pub readings : List Reading
readings =
    record { lines = held; question = as_before report; result = guarded }
    -- the other thread's steps between the READs change nothing
    ∷ record { lines = held; question = left (0 ∷ 0 ∷ 0 ∷ 0 ∷ 0 ∷ 0 ∷ 1 ∷ 1 ∷ 1 ∷ 1 ∷ 0 ∷ 0 ∷ []); result = (pos 100 ∷ pos 100 ∷ pos 100 ∷ []) ∷ [] }
    -- "until it gives it up"
    ∷ record { lines = given_between; question = as_before report; result = guarded }
    ∷ record {
      lines = given_between;
      question = left (0 ∷ 0 ∷ 0 ∷ 0 ∷ 0 ∷ 0 ∷ 1 ∷ 0 ∷ 1 ∷ 1 ∷ 1 ∷ 1 ∷ 1 ∷ 0 ∷ 0 ∷ 0 ∷ []);
      result = (pos 101 ∷ pos 100 ∷ pos 101 ∷ []) ∷ [];
    }
    ∷ []

pub readings_hold : readings_computed readings ≡ readings_results readings
unfolding readings_computed count_trailing_zeros
readings_hold = refl

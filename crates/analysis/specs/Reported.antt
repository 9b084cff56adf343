-- What `report` answers of a text and leaves in the lent buffer, and when a table may be loaded. Assumes nothing.
use Rattle.std.specs.Prelude.{ℕ, Bool, false, cond, List, ltb, length, Result, Ok, Err}
use Rattle.lines.specs.Line.{numbers_of}
use Rattle.table.specs.Table.{Table, table_of}
use Rattle.table.specs.Verdict.{Verdict, verdict}
use Rattle.report.specs.Report.{report_text}
use Rattle.report_printer.specs.Printed.{printed_over, counts_nothing}
use Rattle.table.specs.declared.Refusal.{Refusal}
use Rattle.table.specs.declared.Refusal.TheVariants.{Room}
use Rattle.analysis.specs.declared.Examined.{Examined}

-- the table that a text says
abbrev pub table_in : List ℕ → Table
table_in text = table_of (numbers_of text)

-- how many bytes of report are written, or the refusal
abbrev pub Answer : Type 0
Answer = Result ℕ Refusal

-- "An accepted call returns .. for a report also the bytes written"; 13 if "a lent buffer is shorter than the report"
abbrev pub answer_of : List ℕ → ℕ → Answer
answer_of report room = cond (ltb room (length report)) (Err Room) (Ok (length report))

-- the first refusal of 1 to 12 that applies to the text goes before 13
abbrev pub answer_by : Verdict → List ℕ → ℕ → Answer
answer_by (Ok u) report room = answer_of report room
answer_by (Err r) report room = Err r

-- the answer to a text and a buffer of so many bytes
unfoldable pub report_answer : List ℕ → ℕ → Answer
report_answer text room = answer_by (verdict text) (report_text (table_in text)) room

-- "1 to 13 return the number and line and change no buffer"
abbrev pub written_by : Verdict → List ℕ → List ℕ → List ℕ
written_by (Ok u) report out = printed_over report out
written_by (Err r) report out = out

-- the buffer afterwards
unfoldable pub reported_into : List ℕ → List ℕ → List ℕ
reported_into text out = written_by (verdict text) (report_text (table_in text)) out

-- accepted, and both totals are 0
abbrev pub loadable_by : Verdict → Table → Bool
loadable_by (Ok u) t = counts_nothing t
loadable_by (Err r) t = false

unfoldable pub loadable : List ℕ → Bool
loadable text = loadable_by (verdict text) (table_in text)

-- the answer, and whether the table may be loaded
abbrev pub with_clean : Answer → Bool → Examined
with_clean a b = record { answer = a; clean = b }

unfoldable pub examined_in : List ℕ → ℕ → Examined
examined_in text room = with_clean (report_answer text room) (loadable text)

-- "The program `check` reads the text .. and prints the report. On refusal it prints one line: 50, number, line, five zeros": the bytes, for every
-- text and buffer. Assumes nothing.
use Rattle.std.specs.Prelude.{ℕ, List, Ok, Err}
use Rattle.report.specs.Report.{report_text}
use Rattle.refusal.specs.Refusal.{refusal_in}
use Rattle.table.specs.Refusals.{number_of, line_of}
use Rattle.analysis.specs.Reported.{Answer, table_in, report_answer}

-- the report, or line 50 with the number and the line of the refusal; nothing where there is no room for line 50
abbrev pub said_by : Answer → List ℕ → ℕ → List ℕ
said_by (Ok bytes) report room = report
said_by (Err r) report room = refusal_in (number_of r) (line_of r) room

-- what is printed for a text, by a program whose buffer has so many bytes
unfoldable pub said_of : List ℕ → ℕ → List ℕ
said_of text room = said_by (report_answer text room) (report_text (table_in text)) room

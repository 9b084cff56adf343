-- What printing a report leaves in a lent buffer, and what it says of the report. Assumes nothing.
use Rattle.std.specs.Prelude.{◌≡◌, ℕ, Bool, false, cond, ◌&&◌, List, ◌++◌, eqb, ltb, ℤ, pos, negsuc, length, drop, Option, Some, None}
use Rattle.table.specs.Table.{Table}
use Rattle.report.specs.Report.{report_text, unguarded_total, stray_total}
use Rattle.report_printer.specs.declared.Printed.{Printed}

-- the report from the first place on, the places behind it as they were; a buffer that is too short stays as it is
abbrev pub printed_over : List ℕ → List ℕ → List ℕ
printed_over report out = cond (ltb (length out) (length report)) out (report ++ drop (length report) out)

-- how many bytes are written into a buffer of so many; none where it is too short
abbrev pub bytes_in : List ℕ → ℕ → Option ℕ
bytes_in report room = cond (ltb room (length report)) None (Some (length report))

-- a total is 0
abbrev pub is_none : ℤ → Bool
is_none (pos n) = eqb n 0
is_none (negsuc n) = false

-- both totals in line 59 are 0
unfoldable pub counts_nothing : Table → Bool
counts_nothing t = is_none (unguarded_total t) && is_none (stray_total t)

-- what printing a table's report answers, and what it leaves in the buffer
pub record Reports (t : Table) (out new : List ℕ) (printed : Printed) : Type 0 where
  pub bytes : printed.bytes ≡ bytes_in (report_text t) (length out)
  pub clean : printed.clean ≡ counts_nothing t
  pub buffer : new ≡ printed_over (report_text t) out

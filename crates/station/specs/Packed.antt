-- An answer in one number, as include/station.h takes it apart. Assumes nothing.
use Rattle.std.specs.Prelude.{ℕ, Ok, Err}
use Rattle.table.specs.Refusals.{number_of, line_of}
use Rattle.table.specs.Verdict.{Verdict}
use Rattle.analysis.specs.Reported.{Answer}
use Rattle.packing.specs.Packed.{packed}

-- "An accepted call returns 0 and line 0, for a report also the bytes written"; "1 to 13 return the number and line"
abbrev pub number_in : Answer → ℕ
number_in (Ok bytes) = 0
number_in (Err r) = number_of r

abbrev pub line_in : Answer → ℕ
line_in (Ok bytes) = 0
line_in (Err r) = line_of r

abbrev pub bytes_in : Answer → ℕ
bytes_in (Ok bytes) = bytes
bytes_in (Err r) = 0

abbrev pub packed_answer : Answer → ℕ
packed_answer a = packed (number_in a) (line_in a) (bytes_in a)

-- of a run, which writes no report
abbrev pub of_run : Verdict → Answer
of_run (Ok u) = Ok 0
of_run (Err r) = Err r

abbrev pub packed_outcome : Verdict → ℕ
packed_outcome o = packed_answer (of_run o)

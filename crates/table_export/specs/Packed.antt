-- What is said of a text, in one number. Assumes nothing.
use Rattle.table.specs.Verdict.{Verdict}
use Rattle.std.specs.Prelude.{ℕ, Ok, Err}
use Rattle.table.specs.Refusals.{number_of, line_of}
use Rattle.packing.specs.Packed.{packed}

-- 0 if it is accepted, else the number and the line of the refusal
abbrev pub packed_verdict : Verdict → ℕ
packed_verdict (Ok u) = 0
packed_verdict (Err r) = packed (number_of r) (line_of r) 0

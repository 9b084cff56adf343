-- Printing a line into a lent buffer: the answer, and every byte of the buffer afterwards. Assumes nothing.
use Rattle.std.specs.Prelude.{ℕ, ◌+◌, Bool, cond, List, ◌++◌, leb, ℤ, length, take, drop, Result, Ok, Err}
use Rattle.lines.specs.Line.{all_in_field, line_text}
use Rattle.line_printer.specs.declared.PrintError as P

-- the 49 bytes of a line fit behind the first `at` of a buffer
abbrev pub has_room : List ℕ → ℕ → Bool
has_room out at = leb (at + 49) (length out)

-- the answer of `print_line`: a number out of the range goes before a buffer that is too short
abbrev pub print_answer : List ℕ → ℕ → List ℤ → Result (Unit {0}) P.PrintError
print_answer out at zs =
    cond (all_in_field zs) (cond (has_room out at) (Ok tt) (Err P.PrintError.NoRoom)) (Err P.PrintError.NoField)

-- the buffer afterwards: the line from `at` on, all other places as they were; on refusal no byte is written
abbrev pub printed_at : List ℕ → ℕ → List ℤ → List ℕ
printed_at out at zs =
    cond (all_in_field zs) (cond (has_room out at) (take at out ++ line_text zs ++ drop (at + 49) out) out) out

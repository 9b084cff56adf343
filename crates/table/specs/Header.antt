-- "One header: 1, cells (1 to 64), locks (0 to 16), handles (0 to 128), routines (1 to 32), statements (1 to 512), 0, 0", and the order of the lines. Assumes nothing.
use Rattle.std.specs.Prelude.{ℕ, ◌+◌, List, Bool, cond, ◌&&◌, eqb, leb, ℤ, Option, Some, None}
use Rattle.table.specs.Fields.{field, unused}

abbrev pub cells : List ℤ → ℕ
cells f = field f 0 1

-- how many cells a line says, if it is one
abbrev pub cells_said : Option (List ℤ) → ℕ
cells_said (Some header) = cells header
cells_said None = 0

abbrev pub locks : List ℤ → ℕ
locks f = field f 0 2

abbrev pub handles : List ℤ → ℕ
handles f = field f 0 3

abbrev pub routines : List ℤ → ℕ
routines f = field f 0 4

abbrev pub statements : List ℤ → ℕ
statements f = field f 0 5

-- from low to high, both included
abbrev pub within : ℕ → ℕ → ℕ → Bool
within low high n = leb low n && leb n high

-- refusal 3: the header's rule, the leading 1 included
unfoldable pub header_ok : List ℤ → Bool
header_ok f =
    eqb (field f 0 0) 1 && within 1 64 (cells f) && within 0 16 (locks f) && within 0 128 (handles f) && within 1 32 (routines f)
    && within 1 512 (statements f) && unused f 0 6

-- "The lines come in the order below": a header, handle lines, routine lines, statement lines
abbrev pub handle_line : ℕ → ℕ
handle_line h = 1 + h

abbrev pub routine_line : List ℤ → ℕ → ℕ
routine_line f r = 1 + handles f + r

abbrev pub statement_line : List ℤ → ℕ → ℕ
statement_line f s = 1 + handles f + routines f + s

-- refusal 4: the lines are 1 + handles + routines + statements
unfoldable pub length_ok : List ℤ → ℕ → Bool
length_ok f lines = eqb lines (statement_line f (statements f))

-- the first field that a later line's position needs
unfoldable pub leading : List ℤ → ℕ → ℕ
leading f line =
    cond (leb line (handles f)) 2 (cond (leb line (handles f + routines f)) 3 4)

-- refusal 5: a later line's first field is the one that its position needs
unfoldable pub leading_ok : List ℤ → ℕ → Bool
leading_ok f line = eqb (field f line 0) (leading f line)

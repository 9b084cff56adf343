-- Where each routine's statements and handles begin, and how many parameters it has, in lists by the routine's number. Assumes nothing.
use Rattle.std.specs.Prelude.{ℕ, ◌+◌, List, ℤ}
use Rattle.table.specs.Tabulate.{tabulate, below}
use Rattle.table.specs.Header.{routines}
use Rattle.table.specs.Handles.{handles_from, parameters}
use Rattle.table.specs.Routines.{first_statement}

-- the first statement of each routine, behind the last routine's the number of statements dealt out, then zeros
abbrev pub first_statements : List ℤ → List ℕ
first_statements f = tabulate 33 (below (routines f + 1) (first_statement f))

-- the first handle of each routine, behind the last routine's the number of handles, then zeros
abbrev pub first_handles : List ℤ → List ℕ
first_handles f = tabulate 33 (below (routines f + 1) (handles_from f))

-- how many parameters each routine has, then zeros
abbrev pub parameter_counts : List ℤ → List ℕ
parameter_counts f = tabulate 32 (below (routines f) (parameters f))

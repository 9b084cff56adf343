-- The table that the numbers of an accepted text say: what the machine and the report are defined on. Assumes nothing.
use Rattle.std.specs.Prelude.{ℕ, ◌+◌, ◌-◌, ◌≤◌, ◌<◌, ◌≡◌, cond, List, [], ◌∷◌, get_or, length, eqb, ℤ}
use Rattle.table.specs.Tabulate.{tabulate}
use Rattle.table.specs.Fields.{number, field}
use Rattle.table.specs.Header.{cells, locks, handles, routines, statements, statement_line}
use Rattle.table.specs.Handles.{routine_of, kind_of, origin_of, start_of, handles_from, parameters}
use Rattle.table.specs.Routines.{count_of, first_statement}
use Rattle.table.specs.Statements.{operation}
use Rattle.table.specs.declared.Arguments.{Arguments}
use Rattle.table.specs.declared.Statement.{Statement}
use Rattle.table.specs.declared.Statement.TheVariants.{Read, Write, Set, Add, Take, Give, Point, Call, Start, Jump, JumpZero, Return, TakeRead}
use Rattle.table.specs.declared.Declaration.{Declaration}
use Rattle.table.specs.declared.Routine.{Routine}
use Rattle.table.specs.declared.Counts.{Counts}

-- "All things, handles and statements too, are numbered from 0 through the whole table": a table is how many cells and locks it has, and its handles,
-- routines and statements, each by its number
pub record Table : Type 0 where
  pub cells : ℕ
  pub locks : ℕ
  pub handles : List Declaration
  pub routines : List Routine
  pub statements : List Statement

-- ---- the parts of a table by their numbers; past the end an empty thing

abbrev pub declaration : Table → ℕ → Declaration
declaration t h = get_or t.handles h (record { routine = 0; kind = 0; origin = 0; start = 0 })

abbrev pub routine : Table → ℕ → Routine
routine t r = get_or t.routines r (record { first = 0; count = 0; handle = 0; handles = 0; parameters = 0 })

abbrev pub statement : Table → ℕ → Statement
statement t s = get_or t.statements s Return

-- the handles that a CALL or START passes, in order
abbrev pub passed : Arguments → List ℕ
passed a = a.first ∷ a.second ∷ a.third ∷ a.fourth ∷ []

-- statement s is one of routine r
pub record InRoutine (t : Table) (r s : ℕ) : Type 0 where
  pub low : (routine t r).first ≤ s
  pub high : s < (routine t r).first + (routine t r).count

-- handle h is one of routine r
pub record OwnHandle (t : Table) (r h : ℕ) : Type 0 where
  pub there : h < length t.handles
  pub own : (declaration t h).routine ≡ r

-- ---- the table of an accepted text's numbers

-- the handles that the CALL or START in a line passes
unfoldable pub arguments_in : List ℤ → ℕ → Arguments
arguments_in f line = record { first = field f line 3; second = field f line 4; third = field f line 5; fourth = field f line 6 }

-- the statement that the operation `op` of a line and its operands say; what is no operation is read as RETURN
unfoldable pub statement_in : List ℤ → ℕ → ℕ → Statement
unfolding arguments_in
statement_in f line op =
    let a = field f line 2 in
    let arguments = arguments_in f line in
    cond (eqb op 1) (Read (record { number = a }))
    (cond (eqb op 2) (Write (record { number = a }))
    (cond (eqb op 3) (Set (number f line 2))
    (cond (eqb op 4) (Add (number f line 2))
    (cond (eqb op 5) (Take (record { number = a }))
    (cond (eqb op 6) (Give (record { number = a }))
    (cond (eqb op 7) (Point (record { number = a }) (record { number = field f line 3 }))
    (cond (eqb op 8) (Call a arguments)
    (cond (eqb op 9) (Start a arguments)
    (cond (eqb op 10) (Jump (record { statement = a }))
    (cond (eqb op 11) (JumpZero (record { statement = a }))
    (cond (eqb op 13) (TakeRead (record { number = a }))
    Return)))))))))))

-- statement s
unfoldable pub statement_of : List ℤ → ℕ → Statement
unfolding statement_in
statement_of f s = statement_in f (statement_line f s) (operation f s)

unfoldable pub declaration_of : List ℤ → ℕ → Declaration
declaration_of f h = record { routine = routine_of f h; kind = kind_of f h; origin = origin_of f h; start = start_of f h }

unfoldable pub routine_at : List ℤ → ℕ → Routine
routine_at f r =
    record {
      first = first_statement f r;
      count = count_of f r;
      handle = handles_from f r;
      handles = handles_from f (r + 1) - handles_from f r;
      parameters = parameters f r;
    }

-- the five counts of the header
unfoldable pub counts_of : List ℤ → Counts
counts_of f = record { cells = cells f; locks = locks f; handles = handles f; routines = routines f; statements = statements f }

unfoldable pub table_of : List ℤ → Table
table_of f =
    record {
      cells = cells f;
      locks = locks f;
      handles = tabulate (handles f) (declaration_of f);
      routines = tabulate (routines f) (routine_at f);
      statements = tabulate (statements f) (statement_of f);
    }

-- Copies of routines. Every rule of the report is written over a copy of a routine and a handle or a statement of it.
-- Today there is one copy of each routine, so copies, handles and statements keep the table's numbers. Assumes nothing.
use Rattle.std.specs.Prelude.{ℕ, ◌+◌, Bool, not, ◌&&◌, List, [], ◌∷◌, get_or, length, leb, ltb}
use Rattle.table.specs.Table.{Table, declaration, routine, statement}
use Rattle.table.specs.Tabulate.{tabulate}
use Rattle.table.specs.Until.{until}
use Rattle.table.specs.View.{view, set_on}
use Rattle.table.specs.declared.Statement.{Statement}

-- copies of routines, and the places of their handles and statements in lists of sets
pub record Layout : Type 0 where
  -- how many copies, the one of routine 0, and the routine of each
  pub copies : ℕ
  pub first : ℕ
  pub routine_of : ℕ → ℕ
  -- the copy that a CALL or START, a statement of a copy, leads to
  pub leads : ℕ → ℕ → ℕ
  -- how many handles all copies have together; the copy and the handle at a place; the place of a copy's handle
  pub handles : ℕ
  pub handle_copy : ℕ → ℕ
  pub handle_at : ℕ → ℕ
  pub handle_place : ℕ → ℕ → ℕ
  -- the same of statements
  pub statements : ℕ
  pub statement_copy : ℕ → ℕ
  pub statement_at : ℕ → ℕ
  pub statement_place : ℕ → ℕ → ℕ
  -- the places of one statement of the table, one for each copy of its routine
  pub places_of : ℕ → List ℕ

-- the routine that a CALL or START names; 0 for any other statement
unfoldable pub named : Statement → ℕ
named σ = set_on (view σ).names (λ q. q)

-- statement s is one of routine r, as a test
unfoldable pub is_in : Table → ℕ → ℕ → Bool
is_in t s r = leb (routine t r).first s && ltb s ((routine t r).first + (routine t r).count)

-- the routine that statement s is dealt out to
unfoldable pub owner_of : Table → ℕ → ℕ
owner_of t s = until (λ r. not (is_in t s r)) 0 (length t.routines)

-- one copy of each routine: a copy has its routine's number, and handles and statements keep theirs
unfoldable pub one_each : Table → Layout
one_each t =
    let owners : List ℕ = tabulate (length t.statements) (owner_of t) in
    record {
      copies = length t.routines;
      first = 0;
      routine_of = λ c. c;
      leads = λ c s. named (statement t s);
      handles = length t.handles;
      handle_copy = λ h. (declaration t h).routine;
      handle_at = λ h. h;
      handle_place = λ c h. h;
      statements = length t.statements;
      statement_copy = λ s. get_or owners s 0;
      statement_at = λ s. s;
      statement_place = λ c s. s;
      places_of = λ s. s ∷ [];
    }

-- "the report does not depend on values": it looks at a table's statements by their views alone, so two tables that differ in the numbers of SET and ADD
-- have the same report. Assumes nothing.
use Rattle.std.specs.Prelude.{ℕ, ◌≡◌, length, ℤ}
use Rattle.table.specs.Table.{Table, statement}
use Rattle.table.specs.View.{view}
use Rattle.table.specs.declared.Statement.{Statement}
use Rattle.table.specs.declared.Statement.TheVariants.{Set, Add}

-- the tables have the same parts, and their statements, one by one, what R says of two
pub record SameBut (R : Statement → Statement → Type 0) (t u : Table) : Type 0 where
  pub cells_same : t.cells ≡ u.cells
  pub locks_same : t.locks ≡ u.locks
  pub handles_same : t.handles ≡ u.handles
  pub routines_same : t.routines ≡ u.routines
  pub count_same : length t.statements ≡ length u.statements
  pub each : (s : ℕ) → R (statement t s) (statement u s)

-- the tables are the same to the rules: so are the views of their statements
abbrev pub Alike : Table → Table → Type 0
Alike t u = SameBut (λ σ τ. view σ ≡ view τ) t u

-- the statements are the same but for the number of a SET or of an ADD
pub data SameButNumber (σ τ : Statement) : Type 0 where
  same : σ ≡ τ → SameButNumber σ τ
  sets : (m n : ℤ) → σ ≡ Set m → τ ≡ Set n → SameButNumber σ τ
  adds : (m n : ℤ) → σ ≡ Add m → τ ≡ Add n → SameButNumber σ τ

-- the tables differ in the numbers of SET and ADD alone
abbrev pub SameButNumbers : Table → Table → Type 0
SameButNumbers t u = SameBut SameButNumber t u

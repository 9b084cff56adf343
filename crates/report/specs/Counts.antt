-- The counts of line 51 for all cells, summed in one walk over the statements. CountsLaws shows that they are the report's. Assumes nothing.
use Rattle.std.specs.Prelude.{ℕ, zero, suc, ◌+◌, Bool, cond, List, get_or, length}
use Rattle.sets.specs.Set.{has}
use Rattle.table.specs.Table.{Table}
use Rattle.table.specs.Tabulate.{tabulate}
use Rattle.report.specs.Layout.{Layout}
use Rattle.report.specs.Operations.{reading, writing}
use Rattle.report.specs.Findings.{Sets, statement_access, access_count}

-- for each cell how many statements read it, and how many write it
pub record Counts : Type 0 where
  pub reads : List ℕ
  pub writes : List ℕ

-- nothing is counted yet
unfoldable pub no_counts : ℕ → Counts
no_counts cells = record { reads = tabulate cells (λ x. 0); writes = tabulate cells (λ x. 0) }

-- C-20: "adding to each cell in the handle's set"
unfoldable pub add_each : ℕ → List ℕ → List ℕ
add_each set counts = tabulate (length counts) (λ x. cond (has set x) 1 0 + get_or counts x 0)

-- a statement adds to the cells that it reads, and to the cells that it writes
unfoldable pub add_access : (Bool → ℕ) → Counts → Counts
add_access own c = record { reads = add_each (own reading) c.reads; writes = add_each (own writing) c.writes }

-- C-20: "sum them in one walk over the statements": over n of them, from the last one to `from`
unfoldable pub walk_from : (Bool → ℕ → ℕ) → ℕ → ℕ → ℕ → Counts
walk_from own cells from zero = no_counts cells
walk_from own cells from (suc n) = add_access (λ w. own w from) (walk_from own cells (from + 1) n)

-- the walk over a table, with a count for each of the first `cells` cells
unfoldable pub walked : Table → Layout → Sets → ℕ → Counts
walked t k a cells = walk_from (statement_access t k a) cells 0 (length t.statements)

-- C-20: "summing cell by cell"
unfoldable pub cell_by_cell : Table → Layout → Sets → ℕ → Counts
cell_by_cell t k a cells = record { reads = tabulate cells (access_count t k a reading); writes = tabulate cells (access_count t k a writing) }

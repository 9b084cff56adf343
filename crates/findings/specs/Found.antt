-- What is found of a table: the sets and the lists made of them are those of the definitions. Assumes nothing.
use Rattle.std.specs.Prelude.{◌≡◌, Bool, cond, List, ℕ, ◌<◌, ℤ, get_or, length}
use Rattle.table.specs.Table.{Table, table_of}
use Rattle.table.specs.Tabulate.{tabulate}
use Rattle.report.specs.Layout.{one_each}
use Rattle.report.specs.Held.{all_locks}
use Rattle.report.specs.Preceded.{is_preceded}
use Rattle.report.specs.Findings.{Sets, sets_of, shared_cells, own_held, own_holds, common_locks, access_count}
use Rattle.findings.specs.declared.Noted.{Noted}
use Rattle.findings.specs.Steps.{counts_of}

-- the sets of a table with one copy of each routine
abbrev pub sets_in : Table → Sets
sets_in t = sets_of t (one_each t)

-- what counts for the common locks (C-13, C-18): what is held, in the way of its access, at a statement that a START can precede, and all locks at any other
unfoldable pub counted_holds : Table → List ℕ
counted_holds t =
    tabulate (length t.statements)
    (λ p. cond (is_preceded (one_each t) (sets_in t).preceded p) (own_held t (one_each t) (sets_in t) p) (all_locks t))

-- the flow sets of a table and what is held at each statement in the way of its access; its shared cells; and for each cell the locks common to all its counted accesses, and how many statements read and write it
pub record Found (f : List ℤ) (flow held : List ℕ) (shared : ℕ) (noted : Noted) : Type 0 where
  pub flow_is : flow ≡ (sets_in (table_of f)).flow
  pub held_is : held ≡ own_holds (table_of f) (one_each (table_of f)) (sets_in (table_of f))
  pub shared_is : shared ≡ shared_cells (table_of f) (one_each (table_of f)) (sets_in (table_of f))
  pub common_is : (x : ℕ) → x < (table_of f).cells → get_or noted.common x 0 ≡ common_locks (table_of f) (one_each (table_of f)) (sets_in (table_of f)) x
  pub counts_is : (w : Bool) (x : ℕ) → x < (table_of f).cells
      → get_or (counts_of w noted) x 0 ≡ access_count (table_of f) (one_each (table_of f)) (sets_in (table_of f)) w x

-- What each step of the findings computes, over the numbers of a table and lists of sets. FoundLaws shows that together they are the report's.
-- Assumes nothing.
use Rattle.std.specs.Prelude.{ℕ, zero, suc, ◌+◌, Bool, cond, ◌||◌, List, ℤ, get_or}
use Rattle.sets.specs.Set.{has, one, firsts}
use Rattle.table.specs.Header.{locks, statements}
use Rattle.table.specs.Table.{statement_of}
use Rattle.table.specs.Tabulate.{tabulate}
use Rattle.table.specs.View.{view, set_on, starts}
use Rattle.report.specs.Over.{inter_from}
use Rattle.report.specs.Layout.{named}
use Rattle.report.specs.Operations.{reading, writing, accessed}
use Rattle.report.specs.Findings.{clash, stray_by, is_unguarded}
use Rattle.report.specs.Counts.{Counts, walk_from}
use Rattle.findings.specs.declared.Noted.{Noted}

-- what n steps make of a value, from the step of the last number to that of `from`
module _ {A : Type 0} where
  unfoldable pub fold_from : (ℕ → A → A) → A → ℕ → ℕ → A
  fold_from step last from zero = last
  fold_from step last from (suc n) = step from (fold_from step last (from + 1) n)

-- the cells that statement s reads, or writes, itself
unfoldable pub own_by : List ℤ → List ℕ → Bool → ℕ → ℕ
own_by f flow w s = accessed w (λ h. get_or flow h 0) (statement_of f s)

-- statement s reads, or writes, cell x itself
unfoldable pub accesses : List ℤ → List ℕ → Bool → ℕ → ℕ → Bool
accesses f flow w x s = has (own_by f flow w s) x

-- what statement s leaves of the locks common to all accesses of cell x
unfoldable pub held_at : List ℤ → List ℕ → List ℕ → ℕ → ℕ → ℕ
held_at f flow held x s = cond (accesses f flow reading x s || accesses f flow writing x s) (get_or held s 0) (firsts (locks f))

-- the locks common to all accesses of cell x
unfoldable pub common_by : List ℤ → List ℕ → List ℕ → ℕ → ℕ
common_by f flow held x = inter_from (firsts (locks f)) 0 (statements f) (held_at f flow held x)

-- the counts of line 51, summed in one walk over the statements
unfoldable pub walk_by : List ℤ → List ℕ → Counts
walk_by f flow = walk_from (own_by f flow) 64 0 (statements f)

-- what is noted of all accesses: for each of 64 cells the common locks, how many statements read it, and how many write it
unfoldable pub noted_by : List ℤ → List ℕ → List ℕ → Noted
noted_by f flow held = record { common = tabulate 64 (common_by f flow held); reads = (walk_by f flow).reads; writes = (walk_by f flow).writes }

-- how many statements read, or write, each cell
abbrev pub counts_of : Bool → Noted → List ℕ
counts_of w noted = cond w noted.writes noted.reads

-- the cells shared at statement s, from the effects and from the futures, of which those that are written stand `half` places behind
unfoldable pub shared_by : List ℤ → List ℕ → List ℕ → List ℕ → ℕ → ℕ → ℕ
shared_by f reads writes later half s =
    set_on (starts (view (statement_of f s)))
    (λ q. clash (get_or reads (named (statement_of f s)) 0) (get_or writes (named (statement_of f s)) 0) (get_or later s 0) (get_or later (half + s) 0))

-- the routine that statement s STARTs, as a set
unfoldable pub started_by : List ℤ → ℕ → ℕ
started_by f s = set_on (starts (view (statement_of f s))) one

-- statement s is a stray GIVE
unfoldable pub stray_in : List ℤ → List ℕ → List ℕ → ℕ → Bool
stray_in f flow held s = stray_by (λ h. get_or flow h 0) (get_or held s 0) (statement_of f s)

-- cell x is unguarded, by the locks common to the accesses of each cell
unfoldable pub unguarded_in : ℕ → List ℕ → ℕ → Bool
unguarded_in shared common x = is_unguarded shared (get_or common x 0) x

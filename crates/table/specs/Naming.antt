-- Which routines name which, by CALL or START, and which reach themselves so. A set of routines is a number (crate `sets`). Assumes nothing.
use Rattle.std.specs.Prelude.{Option, Some, None, ℕ, zero, suc, ◌+◌, ◌-◌, List, Bool, cond, not, ltb, ℤ, get_or}
use Rattle.sets.specs.Set.{has, one, union, minus, with, lowest}
use Rattle.table.specs.Tabulate.{tabulate}
use Rattle.table.specs.Header.{routines}
use Rattle.table.specs.Routines.{first_statement}
use Rattle.table.specs.Table.{statement_of}
use Rattle.table.specs.View.{view, set_on}

-- what statement s names: one routine if it is a CALL or a START, else none
unfoldable pub named_by : List ℤ → ℕ → ℕ
named_by f s = set_on (view (statement_of f s)).names one

-- acc, and the sets that g gives for the n numbers from i on
unfoldable pub gather : (ℕ → ℕ) → ℕ → ℕ → ℕ → ℕ
gather g acc i zero = acc
gather g acc i (suc n) = gather g (union acc (g i)) (i + 1) n

-- what the statements of routine r name; nothing for a number that is no routine's
unfoldable pub names_of : List ℤ → ℕ → ℕ
names_of f r = cond (ltb r (routines f)) (gather (named_by f) 0 (first_statement f r) (first_statement f (r + 1) - first_statement f r)) 0

-- for each routine, what its statements name
unfoldable pub names_in : List ℤ → List ℕ
names_in f = tabulate 32 (names_of f)

-- refusal 11: routine r is named by a CALL or START
unfoldable pub is_named : List ℕ → ℕ → Bool
is_named names r = has (gather (λ (k : ℕ). get_or names k 0) 0 0 32) r

-- by the lowest element of a set: `none` if there is none, else what `some` says of it
abbrev pub on_which : Option ℕ → ℕ → (ℕ → ℕ) → ℕ
on_which None none some = none
on_which (Some i) none some = some i

-- the routines reached from the set `worklist`, beside those of `seen`: take one of `worklist`, then what it names and has not been seen.
-- Each call sees one routine more, so `left`, the number of routines left, falls.
unfoldable pub walk : List ℕ → ℕ → ℕ → ℕ → ℕ
walk names worklist seen zero = seen
walk names worklist seen (suc left) =
    on_which (lowest worklist) seen (λ i. walk names (minus (union worklist (get_or names i 0)) (with seen i)) (with seen i) left)

-- the routines that routine r reaches through CALLs and STARTs
unfoldable pub reached : List ℕ → ℕ → ℕ
reached names r = walk names (get_or names r 0) 0 32

-- refusal 12: routine r does not reach itself
unfoldable pub is_acyclic : List ℕ → ℕ → Bool
is_acyclic names r = not (has (reached names r) r)

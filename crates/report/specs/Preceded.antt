-- C-13: "A START can precede a statement if its routine is named by a START, if a START can precede some CALL of its routine, or if it may follow, in its
-- routine, a START or a CALL that reaches one by CALLs." Lists of sets that have the element 0 or nothing: what is so has it. Assumes nothing.
use Rattle.std.specs.Prelude.{ℕ, ◌+◌, Bool, true, cond, ◌||◌, List, [], ◌∷◌, ◌++◌, map, eqb, get_or}
use Rattle.sets.specs.Set.{has}
use Rattle.sets.specs.Least.{Edge, plain, least}
use Rattle.table.specs.Table.{Table, statement}
use Rattle.table.specs.Tabulate.{tabulate}
use Rattle.table.specs.View.{view, test_on, list_on, calls, starts}
use Rattle.table.specs.declared.Statement.{Statement}
use Rattle.report.specs.Over.{joined_from}
use Rattle.report.specs.Layout.{Layout}
use Rattle.report.specs.Operations.{nexts}

-- n sets without the element, and behind them one that has it, from which edges bring it: the place of "a START"
unfoldable pub marked : ℕ → List ℕ
marked n = tabulate (n + 1) (λ p. cond (eqb p n) 1 0)

-- it is so at place p
unfoldable pub is_marked : List ℕ → ℕ → Bool
is_marked sets p = has (get_or sets p 0) 0

-- ---- which copies hold a START, or reach one by CALLs

-- to copy c, for its statement s: from "a START" if it is one, from the copy that it leads to if it is a CALL
unfoldable pub reach_edges : Layout → ℕ → ℕ → Statement → List Edge
reach_edges k c s σ =
    list_on (starts (view σ)) (λ q. plain k.copies c ∷ []) ++ list_on (calls (view σ)) (λ q. plain (k.leads c s) c ∷ [])

unfoldable pub reach_sets : Table → Layout → List ℕ
reach_sets t k =
    least (joined_from 0 k.statements (λ p. reach_edges k (k.statement_copy p) (k.statement_at p) (statement t (k.statement_at p)))) (marked k.copies)

-- ---- which statements a START can precede: a set for each statement of each copy, behind them one for each copy, last "a START"

-- statement s of copy c is "a START or a CALL that reaches one by CALLs"
unfoldable pub brings_start : Layout → List ℕ → ℕ → ℕ → Statement → Bool
brings_start k reach c s σ = test_on (starts (view σ)) (λ q. true) || test_on (calls (view σ)) (λ q. is_marked reach (k.leads c s))

-- the place of copy c: its routine is named by a START, or a START can precede some CALL of it
unfoldable pub entered : Layout → ℕ → ℕ
entered k c = k.statements + c

-- what may follow statement s of copy c, at place p, follows "a START" if it brings one, else what it follows itself; a START enters the copy that it
-- leads to, and so does a CALL that a START can precede
unfoldable pub preceding_edges : Layout → List ℕ → ℕ → ℕ → ℕ → Statement → List Edge
preceding_edges k reach p c s σ =
    let origin = cond (brings_start k reach c s σ) (entered k k.copies) p in
    map (λ (n : ℕ). plain origin (k.statement_place c n)) (nexts s σ)
    ++ (list_on (starts (view σ)) (λ q. plain (entered k k.copies) (entered k (k.leads c s)) ∷ [])
    ++ list_on (calls (view σ)) (λ q. plain p (entered k (k.leads c s)) ∷ plain (entered k c) (entered k (k.leads c s)) ∷ []))

unfoldable pub preceded_sets : Table → Layout → List ℕ → List ℕ
preceded_sets t k reach =
    least (joined_from 0 k.statements (λ p. preceding_edges k reach p (k.statement_copy p) (k.statement_at p) (statement t (k.statement_at p))))
    (marked (k.statements + k.copies))

-- "A START can precede" the statement at place p
unfoldable pub is_preceded : Layout → List ℕ → ℕ → Bool
is_preceded k preceded p = is_marked preceded p || is_marked preceded (entered k (k.statement_copy p))

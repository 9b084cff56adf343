-- Passes counted: tables, and how many passes over the statements from the highest number down each of them takes. Assumes nothing.
use Rattle.std.specs.Prelude.{ℕ, ◌≡◌, refl, List, [], ◌∷◌, ℤ}
use Rattle.round_robin.specs.RoundRobin.{pass_down, counted, passes_made}
use Rattle.table.specs.Table.{Table, table_of}
use Rattle.report.specs.Cases.{row, in_one_list, as_computed}
use Rattle.report.specs.Layout.{one_each}
use Rattle.report.specs.FlowPasses.{pass_over, flow_pass, flow_passes}

-- how many passes each table takes
unfoldable pub passes_of : List (List (List ℤ)) → List ℕ
unfolding as_computed pass_down counted passes_made pass_over flow_pass flow_passes
passes_of [] = []
passes_of (lines ∷ rest) = (let t : Table = table_of (in_one_list lines) in flow_passes t (one_each t)) ∷ passes_of rest

-- five routines of two statements, each but 0 with a parameter, and a handle of cell 0 in routine 0
abbrev chain : List (List ℤ) → List (List ℤ)
chain statements =
    row 1 1 0 5 5 10 0 0
    ∷ row 2 0 1 1 0 0 0 0
    ∷ row 2 1 1 0 0 0 0 0
    ∷ row 2 2 1 0 0 0 0 0
    ∷ row 2 3 1 0 0 0 0 0
    ∷ row 2 4 1 0 0 0 0 0
    ∷ row 3 2 0 0 0 0 0 0
    ∷ row 3 2 0 0 0 0 0 0
    ∷ row 3 2 0 0 0 0 0 0
    ∷ row 3 2 0 0 0 0 0 0
    ∷ row 3 2 0 0 0 0 0 0
    ∷ statements

-- helpers before the routines that use them: main CALLs 4 with its handle, 4 CALLs 3, 3 CALLs 2 and 2 CALLs 1, each with its parameter. The first pass ends
-- with main's CALL, the second goes from 4 to 1, and the third changes nothing
abbrev helpers_before : List (List ℤ)
helpers_before =
    chain
    (row 4 8 4 0 0 0 0 0
    ∷ row 4 12 0 0 0 0 0 0
    ∷ row 4 1 1 0 0 0 0 0
    ∷ row 4 12 0 0 0 0 0 0
    ∷ row 4 8 1 2 0 0 0 0
    ∷ row 4 12 0 0 0 0 0 0
    ∷ row 4 8 2 3 0 0 0 0
    ∷ row 4 12 0 0 0 0 0 0
    ∷ row 4 8 3 4 0 0 0 0
    ∷ row 4 12 0 0 0 0 0 0
    ∷ [])

-- each helper behind the routine that uses it: one CALL more in each pass
abbrev helpers_behind : List (List ℤ)
helpers_behind =
    chain
    (row 4 8 1 0 0 0 0 0
    ∷ row 4 12 0 0 0 0 0 0
    ∷ row 4 8 2 1 0 0 0 0
    ∷ row 4 12 0 0 0 0 0 0
    ∷ row 4 8 3 2 0 0 0 0
    ∷ row 4 12 0 0 0 0 0 0
    ∷ row 4 8 4 3 0 0 0 0
    ∷ row 4 12 0 0 0 0 0 0
    ∷ row 4 1 4 0 0 0 0 0
    ∷ row 4 12 0 0 0 0 0 0
    ∷ [])

-- POINTs one behind the other, from handle to handle: as many passes as handles, the most there can be
abbrev points_onward : List (List ℤ)
points_onward =
    row 1 4 0 4 1 4 0 0
    ∷ row 2 0 1 1 0 0 0 0
    ∷ row 2 0 1 1 1 0 0 0
    ∷ row 2 0 1 1 2 0 0 0
    ∷ row 2 0 1 1 3 0 0 0
    ∷ row 3 4 0 0 0 0 0 0
    ∷ row 4 7 1 0 0 0 0 0
    ∷ row 4 7 2 1 0 0 0 0
    ∷ row 4 7 3 2 0 0 0 0
    ∷ row 4 12 0 0 0 0 0 0
    ∷ []

pub passes_counted : passes_of (helpers_before ∷ helpers_behind ∷ points_onward ∷ []) ≡ 3 ∷ 5 ∷ 4 ∷ []
unfolding passes_of
passes_counted = refl

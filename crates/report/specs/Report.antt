-- The report: its lines as eight numbers each. Assumes nothing.
use Rattle.std.specs.Prelude.{ℕ, ◌+◌, ◌≡◌, Bool, cond, ◌&&◌, List, [], ◌∷◌, ◌++◌, map, eqb, get_or, length, ℤ, pos}
use Rattle.std.proofs.Math.Option.{some}
use Rattle.lines.specs.Line.{line_text, line_of, line_at}
use Rattle.sets.specs.Set.{has}
use Rattle.table.specs.Table.{Table}
use Rattle.report.specs.Over.{joined_from}
use Rattle.report.specs.Layout.{Layout, one_each}
use Rattle.report.specs.Operations.{reading, writing}
use Rattle.report.specs.Findings.{Sets, sets_of, shared_cells, common_locks, is_unguarded, access_count, is_stray}

-- 1 or 0
abbrev pub bit : Bool → ℕ
bit b = cond b 1 0

-- "51, cell, reading statements, writing statements, shared (1 or 0), common locks as the sum of 2 to the lock number, unguarded (1 or 0), 0"
unfoldable pub cell_line : Table → Layout → Sets → ℕ → ℕ → List ℕ
cell_line t k a shared x =
    let common = common_locks t k a x in
    51 ∷ x ∷ access_count t k a reading x ∷ access_count t k a writing x ∷ bit (has shared x) ∷ common ∷ bit (is_unguarded shared common x) ∷ 0 ∷ []

-- "for each cell in order"
unfoldable pub cell_lines : Table → Layout → Sets → List (List ℕ)
cell_lines t k a = let shared = shared_cells t k a in joined_from 0 t.cells (λ x. cell_line t k a shared x ∷ [])

-- "then 52, statement, six zeros"
unfoldable pub stray_line : ℕ → List ℕ
stray_line s = 52 ∷ s ∷ 0 ∷ 0 ∷ 0 ∷ 0 ∷ 0 ∷ 0 ∷ []

-- "for each stray GIVE in order"
unfoldable pub stray_lines : Table → Layout → Sets → List (List ℕ)
stray_lines t k a = joined_from 0 (length t.statements) (λ s. cond (is_stray t k a s) (stray_line s ∷ []) [])

-- of the lines, how many pass a test
unfoldable pub count_lines : (List ℕ → Bool) → List (List ℕ) → ℕ
count_lines test [] = 0
count_lines test (l ∷ ls) = bit (test l) + count_lines test ls

-- a line 51 that says unguarded, and a line 52
unfoldable pub says_unguarded : List ℕ → Bool
says_unguarded l = eqb (get_or l 0 0) 51 && eqb (get_or l 6 0) 1

unfoldable pub says_stray : List ℕ → Bool
says_stray l = eqb (get_or l 0 0) 52

-- "then 59, unguarded cells, stray GIVEs, five zeros", counted from the lines above
unfoldable pub total_line : List (List ℕ) → List ℕ
total_line ls = 59 ∷ count_lines says_unguarded ls ∷ count_lines says_stray ls ∷ 0 ∷ 0 ∷ 0 ∷ 0 ∷ 0 ∷ []

-- the lines above line 59
unfoldable pub finding_lines : Table → Layout → List (List ℕ)
finding_lines t k = let a = sets_of t k in cell_lines t k a ++ stray_lines t k a

-- all lines
unfoldable pub lines_for : Table → Layout → List (List ℕ)
lines_for t k = let ls = finding_lines t k in ls ++ (total_line ls ∷ [])

-- the report of a table: its lines, each of eight numbers
unfoldable pub report_lines : Table → List (List ℤ)
report_lines t = map (map pos) (lines_for t (one_each t))

-- "Every line read or printed has a table line's form": the bytes of the lines, one behind the other
unfoldable pub text_of : List (List ℤ) → List ℕ
text_of [] = []
text_of (l ∷ ls) = line_text l ++ text_of ls

-- the report as it is printed
unfoldable pub report_text : Table → List ℕ
report_text t = text_of (report_lines t)

-- "its counts are the two totals in line 59 of its report", which is the last
unfoldable pub last_line : List (List ℤ) → List ℤ
last_line [] = []
last_line (l ∷ []) = l
last_line (l ∷ m ∷ ls) = last_line (m ∷ ls)

-- unguarded cells
unfoldable pub unguarded_total : Table → ℤ
unguarded_total t = get_or (last_line (report_lines t)) 1 (pos 0)

-- stray GIVEs
unfoldable pub stray_total : Table → ℤ
stray_total t = get_or (last_line (report_lines t)) 2 (pos 0)

-- a line of the report, as printed, says "51, cell, reading statements, writing statements, shared (1 or 0), common locks as the sum of 2 to the lock number,
-- unguarded (1 or 0), 0"
pub record Says51 (report : List ℕ) (x reads writes shared common unguarded : ℕ) : Type 0 where
  pub number : ℕ
  pub line_51 : line_of (line_at report number) ≡ some (map pos (51 ∷ x ∷ reads ∷ writes ∷ shared ∷ common ∷ unguarded ∷ 0 ∷ []))

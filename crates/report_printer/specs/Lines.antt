-- The report's lines as the code prints them, out of what is found. ReportedLaws shows that together they are the report. Assumes nothing.
use Rattle.std.specs.Prelude.{ℕ, ◌+◌, ◌≤◌, ◌<◌, cond, ℤ, pos, get_or, length, take, drop}
use mathlib.Core.List.{List, [], ◌∷◌, ◌++◌, map, Memᴰ}
use Rattle.lines.specs.Line.{line_text}
use Rattle.sets.specs.Set.{has}
use Rattle.table.specs.Header.{cells, statements}
use Rattle.report.specs.Findings.{is_unguarded}
use Rattle.report.specs.Over.{joined_from}
use Rattle.report.specs.Report.{bit, stray_line, text_of}
use Rattle.report.specs.ReportTextLaws.{Line8}
use Rattle.findings.specs.Steps.{stray_in}
use Rattle.findings.specs.declared.Noted.{Noted}

-- line 51 of cell x
unfoldable pub cell_numbers : ℕ → ℕ → ℕ → ℕ → ℕ → List ℕ
cell_numbers x reading writing shared common =
    51 ∷ x ∷ reading ∷ writing ∷ bit (has shared x) ∷ common ∷ bit (is_unguarded shared common x) ∷ 0 ∷ []

-- line 59
unfoldable pub total_numbers : ℕ → ℕ → List ℕ
total_numbers unguarded strays = 59 ∷ unguarded ∷ strays ∷ 0 ∷ 0 ∷ 0 ∷ 0 ∷ 0 ∷ []

-- the line of cell x, from what is noted of the accesses
unfoldable pub cells_by : ℕ → Noted → ℕ → List (List ℕ)
cells_by shared noted x = cell_numbers x (get_or noted.reads x 0) (get_or noted.writes x 0) shared (get_or noted.common x 0) ∷ []

-- the line of statement s if it is a stray GIVE, else none
unfoldable pub strays_by : List ℤ → List ℕ → List ℕ → ℕ → List (List ℕ)
strays_by f flow held s = cond (stray_in f flow held s) (stray_line s ∷ []) []

-- the bytes of the lines of n numbers, `from` the first
unfoldable pub text_from : ℕ → ℕ → (ℕ → List (List ℕ)) → List ℕ
text_from from n lines = text_of (map (map pos) (joined_from from n lines))

-- a buffer with bytes from a place on, all other places as they were
unfoldable pub put_at : List ℕ → ℕ → List ℕ → List ℕ
put_at out at text = take at out ++ text ++ drop (at + length text) out

-- the bytes of all lines
unfoldable pub report_by : List ℤ → List ℕ → List ℕ → ℕ → Noted → ℕ → ℕ → List ℕ
report_by f flow held shared noted unguarded strays =
    (text_from 0 (cells f) (cells_by shared noted) ++ text_from 0 (statements f) (strays_by f flow held)) ++ line_text (map pos (total_numbers unguarded strays))

-- the lines of n numbers are lines, and there is room for them behind the first `at` places of a buffer
pub record RoomFor (lines : ℕ → List (List ℕ)) (n at : ℕ) (out : List ℕ) : Type 0 where
  pub eight : (i : ℕ) → i < n → (l : List ℕ) → Memᴰ l (lines i) → Line8 l
  pub room : at + length (text_from 0 n lines) ≤ length out

-- so are all lines of the report
pub record RoomForAll (f : List ℤ) (flow held : List ℕ) (shared : ℕ) (noted : Noted) (unguarded strays : ℕ) (out : List ℕ) : Type 0 where
  pub cells_eight : (i : ℕ) → i < cells f → (l : List ℕ) → Memᴰ l (cells_by shared noted i) → Line8 l
  pub strays_eight : (i : ℕ) → i < statements f → (l : List ℕ) → Memᴰ l (strays_by f flow held i) → Line8 l
  pub total_eight : Line8 (total_numbers unguarded strays)
  pub room : length (report_by f flow held shared noted unguarded strays) ≤ length out

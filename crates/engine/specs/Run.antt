-- What `run` answers and leaves: refusals 1 to 12 of the text, then 13, else the machine's answers and cells. Assumes nothing.
use Rattle.std.specs.Prelude.{ℕ, Bool, false, cond, ◌&&◌, List, ◌++◌, leb, ℤ, length, drop, Ok, Err}
use Rattle.lines.specs.Line.{numbers_of}
use Rattle.table.specs.Table.{Table, table_of}
use Rattle.table.specs.Verdict.{Verdict, verdict}
use Rattle.machine.specs.State.{start}
use Rattle.machine.specs.Engine.{engine_run, answers}
use Rattle.table.specs.declared.Refusal.TheVariants.{Room}

-- the table of a text
abbrev pub table_in : List ℕ → Table
table_in text = table_of (numbers_of text)

-- 13: "A lent buffer is shorter than .. the schedule or the cells need", of an accepted text
abbrev pub outcome_by : Verdict → Bool → Verdict
outcome_by (Ok u) fit = cond fit (Ok tt) (Err Room)
outcome_by (Err r) fit = Err r

-- whether the call is accepted
abbrev pub runs_by : Verdict → Bool → Bool
runs_by (Ok u) fit = fit
runs_by (Err r) fit = false

-- the lent lists have the places that the schedule and the cells need
abbrev pub has_room : List ℕ → List ℕ → List ℕ → List ℤ → Bool
has_room text schedule lent cells = leb (length schedule) (length lent) && leb (table_in text).cells (length cells)

-- what is returned
unfoldable pub outcome_of : List ℕ → List ℕ → List ℕ → List ℤ → Verdict
outcome_of text schedule lent cells = let fit = has_room text schedule lent cells in outcome_by (verdict text) fit

-- "fills one answer byte for each"; "Places past those written keep their contents"; a refused call changes nothing
unfoldable pub answers_left : List ℕ → List ℕ → List ℕ → List ℤ → List ℕ
answers_left text schedule lent cells =
    let fit = has_room text schedule lent cells in
    let written = answers (table_in text) (start (table_in text)) schedule ++ drop (length schedule) lent in
    cond (runs_by (verdict text) fit) written lent

-- "leaves the final cell values in a lent list"
unfoldable pub cells_left : List ℕ → List ℕ → List ℕ → List ℤ → List ℤ
cells_left text schedule lent cells =
    let fit = has_room text schedule lent cells in
    let written = (engine_run (table_in text) (start (table_in text)) schedule).cells ++ drop (table_in text).cells cells in
    cond (runs_by (verdict text) fit) written cells

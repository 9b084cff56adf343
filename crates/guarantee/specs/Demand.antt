-- Demand 3: a text that is accepted and whose report counts no unguarded cell and no stray GIVE is safe after every list of thread numbers. Assumes nothing.
use Rattle.std.specs.Prelude.{◌≡◌, List, [], ◌∷◌, ℕ, ◌-◌, ℤ, pos, length, drop}
use Rattle.std.proofs.Math.Option.{some}
use Rattle.lines.specs.Line.{line_of, numbers_of}
use Rattle.table.specs.Table.{Table, table_of}

-- "its counts are the two totals in line 59 of its report": the last 49 bytes of a report say line 59 with these totals
pub record Counts (report : List ℕ) (unguarded stray : ℤ) : Type 0 where
  pub line_59 : line_of (drop (length report - 49) report)
      ≡ some (pos 59 ∷ unguarded ∷ stray ∷ pos 0 ∷ pos 0 ∷ pos 0 ∷ pos 0 ∷ pos 0 ∷ [])

-- the table of a text
abbrev pub table_in : List ℕ → Table
table_in text = table_of (numbers_of text)

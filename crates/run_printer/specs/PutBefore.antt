-- What one more text leaves at the end of a lent buffer. Assumes nothing.
use Rattle.std.specs.Prelude.{◌≡◌, List, ℕ, ◌≤◌}
use Rattle.run_printer.specs.Words.{Ending, ending, puts}
use Rattle.run_printer.specs.declared.Tail.{Tail}

abbrev pub ended : Tail → Ending
ended a = ending a.out.now a.start

-- the text stands in the same buffer before the one that stood there, as much of it as has room
pub record PutBefore (a b : Tail) (text : List ℕ) : Type 0 where
  pub same : b.out.ghost_name ≡ a.out.ghost_name
  pub is : ended b ≡ puts text (ended a)
  pub within : b.start ≤ a.start

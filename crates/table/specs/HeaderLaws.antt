-- The limits that a header's rule gives, and the order of the lines. Assumes nothing.
use Rattle.std.specs.Prelude.{List, ◌≤◌, ℤ}
use Rattle.table.specs.Header.{cells, locks, handles, routines, statements}

pub record Sized (f : List ℤ) : Type 0 where
  pub cells_some : 1 ≤ cells f
  pub cells_most : cells f ≤ 64
  pub locks_most : locks f ≤ 16
  pub handles_most : handles f ≤ 128
  pub routines_some : 1 ≤ routines f
  pub routines_most : routines f ≤ 32
  pub statements_some : 1 ≤ statements f
  pub statements_most : statements f ≤ 512

-- What more text leaves in a buffer of lines. Assumes nothing.
use Rattle.std.specs.Prelude.{◌≡◌, List, ℕ, ◌+◌, length}
use Rattle.report_printer.specs.Lines.{put_at}
use Rattle.report_printer.specs.declared.Lines.{Lines}

-- the text stands in the same buffer behind what stood there, and all other places are as they were
pub record Written (a b : Lines) (text : List ℕ) : Type 0 where
  pub same : b.out.ghost_name ≡ a.out.ghost_name
  pub used_is : b.used ≡ a.used + length text
  pub bytes_are : b.out.now ≡ put_at a.out.now a.used text

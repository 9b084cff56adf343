-- `reader::has_length` meets its contract. Assumes nothing.
use mathlib.Core.Path.{refl}
use Rattle.table.specs.Verdict.{text_ok}
use Rattle.reader.proofs.has_length.Goals as goal

pub returns : goal.returns
unfolding text_ok
returns c = refl

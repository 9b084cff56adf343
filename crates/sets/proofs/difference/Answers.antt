-- `sets::difference` meets its contract. Assumes nothing.
use native.Mathlib.Omega.{arith}
use Rattle.sets.proofs.Clear.{clear_is_minus}
use Rattle.sets.proofs.difference.Goals as goal

pub returns : goal.returns
returns c = clear_is_minus c.args.a c.args.b (omega arith) (omega arith)

-- `sets::one` meets its contract. Assumes nothing.
use Rattle.sets.proofs.Shift.{shifted}
use Rattle.sets.proofs.SetLaws.{one_is, one_none}
use mathlib.Core.Path.{sym, ◌∙◌}
use native.Mathlib.Omega.{arith}
use Rattle.sets.proofs.one.Goals as goal

pub returns-then-i-lt64 : goal.returns-then-i-lt64
returns-then-i-lt64 c = shifted c.args.i (omega arith) ∙ sym (one_is c.args.i (omega arith))

pub returns-else-i-lt64 : goal.returns-else-i-lt64
returns-else-i-lt64 c = sym (one_none c.args.i (omega arith))

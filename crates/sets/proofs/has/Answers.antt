-- `sets::has` meets its contract. Past bit 63 there is no element. Assumes nothing.
use Prim.Native.Nat.{◌^◌, ◌<◌}
use Rattle.sets.proofs.SetLaws.{has_beyond}
use mathlib.Core.Path.{sym, ◌∙◌}
use Rattle.std.proofs.Common.{le-ltb}
use native.Mathlib.Omega.{arith}
use Rattle.sets.proofs.has.Goals as goal

pub returns-else-i-lt64 : goal.returns-else-i-lt64
returns-else-i-lt64 c = let h : c.args.s < 2 ^ 64 = omega arith in le-ltb _ _ c.if-i-lt64.false ∙ sym (has_beyond 64 c.args.i h (omega arith))

-- `naming::names_in` meets its contract. Assumes nothing.
use native.Mathlib.Omega.{arith}
use Prim.Native.Nat.{zero-le}
use Rattle.naming.specs.GatherLaws.{none_named}
use Rattle.table.specs.Naming.{names_in}
use Rattle.table.proofs.TabulateLaws.{begun_none, begun_rest}
use Rattle.naming.proofs.names_in.Goals as goal

pub loop-r-init : goal.loop-r-init
loop-r-init c = (zero-le, begun_none _ 32)

pub returns : goal.returns
unfolding names_in
returns c = begun_rest _ _ _ _ c.loop-r.invariant.1 (λ k h. none_named _ k (omega (arith, c.field_of-count.ensures.is, c.loop-r-test.false, h)))

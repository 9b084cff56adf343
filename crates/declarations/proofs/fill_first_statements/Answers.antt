-- `declarations::fill_first_statements` meets its contract. Assumes nothing.
use native.Mathlib.Omega.{arith}
use Prim.Native.Nat.{◌<◌, zero-le}
use Rattle.declarations.specs.ListLaws.{summing_start, summing_next}
use Rattle.table.proofs.TabulateLaws.{begun_below}
use Rattle.declarations.proofs.fill_first_statements.Goals as goal

pub loop-r-init : goal.loop-r-init
loop-r-init c = (zero-le, summing_start _)

pub loop-r-preserved : goal.loop-r-preserved
loop-r-preserved c = let few_here : c.loop-r.r < 32 = omega (arith, c.routine_count-count.ensures, c.loop-r-test.true) in (omega arith, summing_next _ _ _ _ _ c.loop-r.invariant.1 few_here c.count_at-sum.ensures.is c.count_at-sum.ensures.small)

pub returns : goal.returns
returns c = begun_below _ _ _ _ _ c.loop-r.invariant.1.begun (omega (arith, c.routine_count-count.ensures))

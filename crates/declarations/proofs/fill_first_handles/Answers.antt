-- `declarations::fill_first_handles` meets its contract. Assumes nothing.
use native.Mathlib.Omega.{arith}
use Prim.Native.Nat.{◌<◌, zero-le}
use Rattle.declarations.specs.ListLaws.{skipping_start, skipping_next}
use Rattle.table.proofs.TabulateLaws.{begun_below}
use Rattle.declarations.proofs.fill_first_handles.Goals as goal

pub loop-r-init : goal.loop-r-init
loop-r-init c = (zero-le, skipping_start _)

pub loop-r-preserved : goal.loop-r-preserved
loop-r-preserved c = let few_here : c.loop-r.r < 32 = omega (arith, c.routine_count-count.ensures, c.loop-r-test.true) in (omega arith, skipping_next _ _ _ _ _ _ c.loop-r.invariant.1 few_here c.field_of-handles.ensures.is c.skip-h.ensures)

pub returns : goal.returns
returns c = begun_below _ _ _ _ _ c.loop-r.invariant.1.begun (omega (arith, c.routine_count-count.ensures))

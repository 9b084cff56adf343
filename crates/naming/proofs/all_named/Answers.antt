-- `naming::all_named` meets its contract. Assumes nothing.
use native.Mathlib.Omega.{arith}
use Rattle.naming.specs.GatherLaws.{gathering_next, gathering_rest}
use Rattle.naming.proofs.all_named.Goals as goal

pub loop-r-preserved : goal.loop-r-preserved
loop-r-preserved c = (omega arith, rw (c.union-all.ensures, c.value_at.ensures) (gathering_next _ _ _ _ _ c.loop-r.invariant.1 (omega (arith, c.loop-r-test.true, c.requires.few))))

pub returns : goal.returns
returns c = gathering_rest _ _ _ _ _ c.loop-r.invariant.1 (λ k h. c.requires.behind k (omega (arith, c.loop-r-test.false, h)))

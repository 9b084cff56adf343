-- `operations::numbers::saturating_sum` meets its contract. Assumes nothing.
use lib.IntN.{◌+ℤ◌}
use Rattle.machine.specs.Step.{saturate}
use native.Mathlib.Omega.{arith}
use mir.Facts.{to_z-of_z}
use Rattle.operations.proofs.Sums.{wide, widened, summed, sum_small, between}
use Rattle.operations.proofs.numbers.saturating_sum.Goals as goal

pub overflow_cast-sum : goal.overflow_cast-sum
overflow_cast-sum c = rw (to_z-of_z c.ranges.a) (wide _ (omega (arith, c.ranges.a.sfits)))

pub overflow_cast-sum-2 : goal.overflow_cast-sum-2
overflow_cast-sum-2 c = rw (to_z-of_z c.ranges.b) (wide _ (omega (arith, c.ranges.b.sfits)))

pub overflow_add-sum : goal.overflow_add-sum
overflow_add-sum c = rw (widened _ c.ranges.a, widened _ c.ranges.b) (wide _ (sum_small _ _ c.ranges.a c.ranges.b))

pub overflow_cast-result : goal.overflow_cast-result
overflow_cast-result c = let z = c.args.a +ℤ c.args.b in let e = summed c.args.a c.args.b c.ranges.a c.ranges.b in rw e (between z (rw e at c.if-sum-gt2147483647.false) (rw e at c.if-sum-ltminus2147483648.false))

pub returns-then-sum-gt2147483647 : goal.returns-then-sum-gt2147483647
unfolding saturate
returns-then-sum-gt2147483647 c = let e = summed c.args.a c.args.b c.ranges.a c.ranges.b in rw (rw e at c.if-sum-gt2147483647.true)

pub returns-then-sum-ltminus2147483648 : goal.returns-then-sum-ltminus2147483648
unfolding saturate
returns-then-sum-ltminus2147483648 c = let e = summed c.args.a c.args.b c.ranges.a c.ranges.b in rw (rw e at c.if-sum-gt2147483647.false, rw e at c.if-sum-ltminus2147483648.true)

pub returns-else-sum-ltminus2147483648 : goal.returns-else-sum-ltminus2147483648
unfolding saturate
returns-else-sum-ltminus2147483648 c = let z = c.args.a +ℤ c.args.b in let e = summed c.args.a c.args.b c.ranges.a c.ranges.b in let f = between z (rw e at c.if-sum-gt2147483647.false) (rw e at c.if-sum-ltminus2147483648.false) in rw (e, to_z-of_z f, rw e at c.if-sum-gt2147483647.false, rw e at c.if-sum-ltminus2147483648.false)

-- `solver::solve` meets its contract. Whatever the order, the list stays between the start and the least list, and at the end it is closed. Assumes nothing.
use native.Mathlib.Omega.{arith}
use borrow.Author.Rules.{rules}
use Rattle.passes.specs.PassLaws.{solving_start, solving_both, solving_done}
use Rattle.solver.proofs.solve.Goals as goal

pub passes-init : goal.passes-init
passes-init c = (omega arith, solving_start _ _ _)

pub passes-preserved : goal.passes-preserved
passes-preserved c = (omega arith, solving_both _ _ c.passes.invariant.1 (rw c.passes-test.true at c.step.ensures.solving))

pub passes-smaller : goal.passes-smaller
passes-smaller c = c.step.ensures.less c.passes-test.true

pub returns : goal.returns
returns c = solving_done _ _ (λ i. search rules) c.passes-test.false (solving_both _ _ c.passes.invariant.1 c.step.ensures.solving)

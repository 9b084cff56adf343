-- `preceding::leave_out` meets its contract. Its loop has gone through the statements below s. Assumes nothing.
use mathlib.Core.Path.{ap, ◌∙◌}
use native.Mathlib.Omega.{arith}
use Rattle.sets.specs.Set.{firsts}
use Rattle.preceding.specs.LeaveLaws.{leaving_start, leaving_next, leaving_before, leaving_done}
use Rattle.preceding.proofs.leave_out.Goals as goal

pub loop-s-init : goal.loop-s-init
loop-s-init c = leaving_start _ c.statements-end.ensures.accepted c.requires

pub loop-s-preserved : goal.loop-s-preserved
loop-s-preserved c = leaving_next c.loop-s.invariant c.statements-end.ensures.is (c.firsts-all.ensures ∙ ap firsts c.locks.ensures) c.loop-s-test.true c.owner_of-c.ensures.is c.owner_of-c.ensures.near c.counted.ensures

pub returns : goal.returns
returns c = record { before = leaving_before c.loop-s.invariant; behind = leaving_done c.loop-s.invariant (omega (arith, c.statements-end.ensures.is, c.loop-s-test.false)) }

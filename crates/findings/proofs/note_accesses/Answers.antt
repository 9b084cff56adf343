-- `findings::note_accesses` meets its contract. Assumes nothing.
use Rattle.std.proofs.Common.{arith, ap, ◌∙◌}
use Rattle.sets.specs.Set.{firsts}
use Rattle.findings.specs.NoteLaws.{noting_start, noting_next, noting_done, noting_few}
use Rattle.findings.proofs.note_accesses.Goals as goal

pub loop-s-init : goal.loop-s-init
loop-s-init c = (
  noting_start _ _ _ _ _ c.statements-s.ensures.is (c.firsts-all.ensures ∙ ap firsts c.locks.ensures),
  omega (arith, c.statements-s.ensures.is),
  omega (arith, c.statements-s.ensures.is, c.statements-s.ensures.few),
)

pub note_access-requires : goal.note_access-requires
note_access-requires c = let inv = c.loop-s.invariant in record { inside = omega arith; few = noting_few inv.0 inv.2 }

pub loop-s-preserved : goal.loop-s-preserved
loop-s-preserved c = let inv = c.loop-s.invariant in
    (noting_next inv.0 c.loop-s-test.true (rw (← c.value_at.ensures) c.note_access.ensures), omega arith, inv.2)

pub returns : goal.returns
returns c = noting_done c.loop-s.invariant.0 c.loop-s-test.false

-- `edges::owner_of` meets its contract. Assumes nothing.
use Rattle.declarations.specs.Laid.{laid_for}
use Rattle.edges.specs.RoutineLaws.{owner_same, owner_next}
use native.Mathlib.Omega.{arith}
use Rattle.edges.proofs.owner_of.Goals as goal

pub returns-then-value_at-s : goal.returns-then-value_at-s
returns-then-value_at-s c =
    let laid = laid_for c.program.view_is c.program.invariant in
    let next = owner_next _ laid.accepted _ laid.measured.firsts _ _ c.requires.0 c.requires.1 (omega (arith, c.value_at.ensures, c.if-value_at-s.true)) in
    record { is = next.0; near = next.1 }

pub returns : goal.returns
returns c =
    let laid = laid_for c.program.view_is c.program.invariant in
    let same = owner_same _ laid.accepted _ laid.measured.firsts _ _ c.requires.0 c.requires.1 (omega (arith, c.value_at.ensures, c.if-value_at-s.false)) in
    record { is = same.0; near = same.1 }

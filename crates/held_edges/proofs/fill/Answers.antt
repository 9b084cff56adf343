-- `held_edges::fill` meets its contract. Its loop has appended the edges of the routines below c. Assumes nothing.
use Rattle.std.specs.Prelude.{◌≡◌}
use Rattle.std.proofs.Common.{refl, ap, arith, ◌∙◌}
use Rattle.table.specs.Header.{routines}
use Rattle.table.specs.Routines.{first_statement}
use Rattle.sets.proofs.AppendLaws.{appended_same, appended_both}
use Rattle.declarations.specs.Laid.{laid_for}
use Rattle.held_edges.specs.TableEdges.{bases_of}
use Rattle.held_edges.specs.GoingLaws.{going_start, going_as, going_done}
use Rattle.held_edges.specs.RoomLaws.{held_filled}
use Rattle.held_edges.specs.RoutineEdgeLaws.{routines_end, all_edges}
use Rattle.held_edges.proofs.fill.Goals as goal

pub loop-c-init : goal.loop-c-init
unfolding first_statement
loop-c-init c = going_start refl

pub returns-clause-filled : goal.returns-clause-filled
returns-clause-filled c =
    let laid = laid_for c.program.view_is c.program.invariant in
    let last : c.loop-c.c ≡ routines c.args.program.now = omega (arith, c.loop-c-test.false, c.loop-c.auto.c-end, c.routines-c-end.ensures.is) in
    let end = ap (first_statement c.args.program.now) last ∙ routines_end _ _ laid.accepted laid.measured.firsts in
    let grown = appended_both c.push.ensures (going_done (going_as refl end c.loop-c.invariant)) in
    held_filled _ _ laid.accepted refl c.requires.0 c.requires.1 (appended_same _ _ (all_edges _ _ laid.accepted laid.measured.firsts _ (c.bases_of-bases.ensures.is ∙ ap bases_of c.program.view_is) c.value_at.ensures) grown)

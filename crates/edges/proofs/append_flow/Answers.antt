-- `edges::append_flow` meets its contract. Assumes nothing.
use Rattle.std.proofs.Common.{refl, arith}
use Rattle.table.proofs.ViewLaws.{flowing_is}
use Rattle.declarations.specs.Laid.{laid_for}
use Rattle.edges.specs.Equations.{edges_at}
use Rattle.edges.specs.Grown.{grown_same, grown_both}
use Rattle.edges.specs.LineLaws.{viewed, names_routine, flow_plain}
use Rattle.edges.specs.RoutineLaws.{passing_parts, flow_passing}
use Rattle.edges.proofs.append_flow.Goals as goal

pub append_passing-requires : goal.append_passing-requires
append_passing-requires c =
    let laid = laid_for c.program.view_is c.program.invariant in
    let is = viewed c.program.view_is c.line_of-line.ensures c.requires (flowing_is _ c.points_at-points.ensures c.source_at.ensures c.names_at.ensures c.arguments_at-arguments.ensures) in
    let parts = passing_parts _ laid.accepted _ _ (laid.measured.handles_first, laid.measured.parameters) _ (names_routine _ laid.accepted _ c.requires is _ c.in-Some.is) c.arguments_at-arguments.result in
    (omega (arith, parts.small, c.value_at-begin.ensures), omega (arith, parts.few, c.value_at.ensures))

pub returns-in-Some : goal.returns-in-Some
returns-in-Some c =
    let laid = laid_for c.program.view_is c.program.invariant in
    let is = viewed c.program.view_is c.line_of-line.ensures c.requires (flowing_is _ c.points_at-points.ensures c.source_at.ensures c.names_at.ensures c.arguments_at-arguments.ensures) in
    grown_same (flow_passing _ laid.accepted _ _ (laid.measured.handles_first, laid.measured.parameters) _ (names_routine _ laid.accepted _ c.requires is _ c.in-Some.is) _ is c.in-Some.is c.value_at-begin.ensures c.value_at.ensures) (grown_both c.push_to.ensures c.append_passing.ensures)

pub returns-in_default : goal.returns-in_default
unfolding edges_at
returns-in_default c =
    grown_same (flow_plain _ _ _ (viewed c.program.view_is c.line_of-line.ensures c.requires (flowing_is _ c.points_at-points.ensures c.source_at.ensures c.names_at.ensures refl)) c.in_default.is) c.push_to.ensures

-- `held_edges::append_routine` meets its contract. Its loop has appended the edges of the statements below s. Assumes nothing.
use Rattle.std.proofs.Common.{refl, sym, ap, arith, ◌∙◌}
use Rattle.std.specs.Prelude.{◌<◌}
use Rattle.sets.proofs.AppendLaws.{appended_same}
use Rattle.table.specs.Header.{statements}
use Rattle.table.specs.Table.{table_of, InRoutine}
use Rattle.declarations.specs.Laid.{laid_for, few_routines, few_statements}
use Rattle.held_edges.specs.TableEdges.{writing_alone, bases_of}
use Rattle.held_edges.specs.GoingLaws.{going_start, going_next, going_as}
use Rattle.held_edges.specs.RoutineEdgeLaws.{begins, first_grows, in_range, statement_there, view_fits, view_part, viewed, low_bases}
use Rattle.held_edges.proofs.append_routine.Goals as goal
use Rattle.held_edges.proofs.append_routine.Goals.{In-loop-s}

-- statement s is one of the routine, and so of the table
inside : (c : In-loop-s) → InRoutine (table_of c.args.program.now) c.args.c c.loop-s.s
inside c =
    let laid = laid_for c.program.view_is c.program.invariant in
    in_range _ _ laid.accepted laid.measured.firsts c.requires c.value_at-s.ensures c.value_at-s-end.ensures c.loop-s.auto.s c.loop-s-test.true

there : (c : In-loop-s) → c.loop-s.s < statements c.args.program.now
there c =
    let laid = laid_for c.program.view_is c.program.invariant in
    statement_there _ _ laid.accepted laid.measured.firsts c.args.c c.loop-s.s c.requires (inside c)

pub loop-s-init : goal.loop-s-init
loop-s-init c =
    let laid = laid_for c.program.view_is c.program.invariant in
    going_start (sym (begins _ _ laid.accepted laid.measured.firsts (omega (arith, c.requires)) c.value_at-s.ensures))

pub line_of-requires : goal.line_of-requires
line_of-requires c = there (goal.at.line_of-requires c).In-loop-s

pub invariant_of-here-clause-small : goal.invariant_of-here-clause-small
invariant_of-here-clause-small c =
    (omega (arith, there (goal.at.invariant_of-here-clause-small c).In-loop-s, few_statements c.program.view_is c.program.invariant), omega (arith, c.requires, few_routines c.program.view_is c.program.invariant))

pub invariant_of-here-clause-low : goal.invariant_of-here-clause-low
invariant_of-here-clause-low c =
    let laid = laid_for c.program.view_is c.program.invariant in
    rw (c.bases_of-bases.ensures.is ∙ ap bases_of c.program.view_is) (low_bases _ _ laid.accepted laid.measured.firsts)

pub invariant_of-here-clause-fit : goal.invariant_of-here-clause-fit
invariant_of-here-clause-fit c =
    let laid = laid_for c.program.view_is c.program.invariant in
    let in_loop = (goal.at.invariant_of-here-clause-fit c).In-loop-s in
    let view_is = viewed c.program.view_is c.line_of.ensures (there in_loop) (writing_alone c.args.mode) (rw (← c.writing_alone-writing.ensures) c.view_at-view.ensures) in
    view_fits _ _ laid.accepted laid.measured.firsts c.args.c c.loop-s.s c.requires (inside in_loop) _ view_is

pub loop-s-preserved : goal.loop-s-preserved
loop-s-preserved c =
    let laid = laid_for c.program.view_is c.program.invariant in
    let in_loop = (goal.at.loop-s-preserved c).In-loop-s in
    let view_is = viewed c.program.view_is c.line_of.ensures (there in_loop) (writing_alone c.args.mode) (rw (← c.writing_alone-writing.ensures) c.view_at-view.ensures) in
    going_next c.loop-s.invariant (appended_same _ _ (view_part _ _ laid.accepted laid.measured.firsts c.args.c c.loop-s.s c.requires (inside in_loop) _ view_is (c.bases_of-bases.ensures.is ∙ ap bases_of c.program.view_is)) c.append_statement.ensures)

pub returns : goal.returns
returns c =
    let laid = laid_for c.program.view_is c.program.invariant in
    let from = begins _ _ laid.accepted laid.measured.firsts (omega (arith, c.requires)) c.value_at-s.ensures in
    let end = begins _ _ laid.accepted laid.measured.firsts (omega (arith, c.requires)) c.value_at-s-end.ensures in
    let last = c.loop-s.auto.s-end (omega (arith, from, end, first_grows _ _ laid.accepted laid.measured.firsts c.args.c c.requires)) in
    going_as refl (omega (arith, c.loop-s-test.false, last, end)) c.loop-s.invariant

-- `start_edges::append_entering` meets its contract. Assumes nothing.
use Rattle.std.specs.Prelude.{ℕ, List, ◌+◌}
use Rattle.std.proofs.Common.{refl, ap, ap₂, ◌∙◌}
use Rattle.sets.specs.Least.{Edge}
use Rattle.start_edges.specs.StartEdges.{entering_edges}
use Rattle.table.specs.Header.{statements}
use Rattle.table.specs.Table.{table_of, statement}
use Rattle.declarations.specs.Laid.{laid_for}
use Rattle.report.specs.Layout.{owner_of}
use Rattle.edges.specs.Grown.{grown_same, grown_both}
use Rattle.edges.specs.LineLaws.{viewed}
use Rattle.edges.specs.RoomLaws.{callers_asked}
use Rattle.start_edges.proofs.StartLaws.{entering_parts}
use Rattle.start_edges.proofs.append_entering.Goals as goal

pub append_callers-requires-clause-end_value : goal.append_callers-requires-clause-end_value
append_callers-requires-clause-end_value c =
    callers_asked c.program.view_is (laid_for c.program.view_is c.program.invariant).accepted _ c.statements-end.ensures.is c.statements-end.ensures.few c.requires.1

pub returns : goal.returns
returns c =
    let f = c.args.program.now in
    let s = c.args.s in
    let last = ap₂ {C = ℕ} (λ (a b : ℕ). a + b) c.statements-end.ensures.is c.routines.ensures.is in
    grown_same
    (entering_parts f s (viewed c.program.view_is c.line_of-line.ensures c.requires.0 refl) _ _ c.statements-end.ensures.is c.starts_at-started.ensures
    ∙ ap {B = List Edge} (λ (x : ℕ). entering_edges (statements f) x (owner_of (table_of f) s) s (statement (table_of f) s)) last)
    (grown_both c.push_to.ensures (rw c.program.view_is at c.append_callers.ensures))

-- `report_printer::print_report` meets its contract. Assumes nothing.
use Rattle.std.specs.Prelude.{Option, Some}
use mathlib.Core.Path.{ap, ◌∙◌}
use Prim.Native.Nat.{ℕ}
use native.Mathlib.Omega.{arith}
use Rattle.table.specs.Header.{cells}
use Rattle.declarations.specs.Laid.{laid_for}
use Rattle.std.proofs.Common.{rules}
use Rattle.report_printer.specs.Lines.{put_at}
use Rattle.report_printer.specs.ReportedLaws.{Counted, counted, no_room, has_room}
use Rattle.report_printer.specs.WriteLaws.{cells_room, strays_room, total_room, report_put}
use Rattle.report_printer.proofs.print_report.Goals as goal
use Rattle.report_printer.proofs.print_report.Goals.{After-unguarded_count-unguarded}

-- what the counts say
counts : (c : After-unguarded_count-unguarded) → Counted c.args.program.now c.args.flow.now c.args.held.now c.args.shared c.args.noted.now c.field_of-cells.result c.unguarded_count-unguarded.result c.stray_count-strays.result
counts c =
    counted c.requires (c.field_of-cells.ensures.is ∙ ap cells c.program.view_is) c.unguarded_count-unguarded.ensures.is c.stray_count-strays.ensures.is
    (laid_for c.program.view_is c.program.invariant).accepted

pub returns-then-out-bytes : goal.returns-then-out-bytes
returns-then-out-bytes c =
    let k = counts (goal.at.returns-then-out-bytes c).After-unguarded_count-unguarded in
    let none_said = no_room _ c.args.out.now (omega (arith, k.bytes, c.if-out-bytes.true)) in
    record { bytes = none_said.0; clean = k.clean; buffer = none_said.1 }

pub print_cells-requires : goal.print_cells-requires
print_cells-requires c =
    let k = counts (goal.at.print_cells-requires c).After-unguarded_count-unguarded in
    rw k.count (cells_room (k.room (omega (arith, c.if-out-bytes.false))))

pub print_strays-requires : goal.print_strays-requires
print_strays-requires c =
    let k = counts (goal.at.print_strays-requires c).After-unguarded_count-unguarded in
    strays_room (k.room (omega (arith, c.if-out-bytes.false))) _ _ (rw k.count at c.print_cells.ensures.used_is) (rw k.count at c.print_cells.ensures.bytes_are)

pub print_total-requires : goal.print_total-requires
print_total-requires c =
    let k = counts (goal.at.print_total-requires c).After-unguarded_count-unguarded in
    let all = k.room (omega (arith, c.if-out-bytes.false)) in
    let first = c.print_cells.ensures in
    let second = c.print_strays.ensures in
    (all.total_eight, total_room all _ _ (rw k.count at first.used_is) (rw k.count at first.bytes_are) _ _ second.used_is second.bytes_are)

pub returns : goal.returns
returns c =
    let k = counts (goal.at.returns c).After-unguarded_count-unguarded in
    let first = c.print_cells.ensures in
    let second = c.print_strays.ensures in
    let said = has_room _ c.args.out.now (omega (arith, k.bytes, c.if-out-bytes.false)) in
    let left =
    c.print_total.ensures.bytes_are
    ∙ report_put (k.room (omega (arith, c.if-out-bytes.false))) _ _ (rw k.count at first.used_is) (rw k.count at first.bytes_are) _ _ second.used_is second.bytes_are
    ∙ ap (put_at c.args.out.now 0) k.report ∙ said.1
    in
    let same = c.print_total.ensures.same ∙ second.same ∙ first.same in
    record { bytes = ap {B = Option ℕ} Some k.bytes ∙ said.0; clean = k.clean; buffer = search rules }

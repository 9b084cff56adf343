-- `report_printer::print_cells` meets its contract. Assumes nothing.
use Rattle.std.specs.Prelude.{◌≡◌}
use Rattle.report_printer.specs.Lines.{cells_by}
use Rattle.report_printer.specs.WriteLaws.{Writing}
use Rattle.report_printer.proofs.print_cells.Given as goal

abbrev pub invariant-loop-x : goal.invariant-loop-x
invariant-loop-x l =
    Writing (cells_by l.shared l.noted) l.count l.initial.lines.used l.initial.lines.out.now l.lines.out.now l.lines.used l.x
    × (l.lines.out.ghost_name ≡ l.initial.lines.out.ghost_name)

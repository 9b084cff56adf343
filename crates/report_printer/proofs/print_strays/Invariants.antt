-- `report_printer::print_strays` meets its contract. Assumes nothing.
use Rattle.std.specs.Prelude.{◌≡◌}
use Rattle.table.specs.Header.{statements}
use Rattle.report_printer.specs.Lines.{strays_by}
use Rattle.report_printer.specs.WriteLaws.{Writing}
use Rattle.report_printer.proofs.print_strays.Given as goal

abbrev pub invariant-loop-s : goal.invariant-loop-s
invariant-loop-s l =
    Writing (strays_by l.program l.flow l.held) (statements l.program) l.initial.lines.used l.initial.lines.out.now l.lines.out.now l.lines.used l.s
    × (l.lines.out.ghost_name ≡ l.initial.lines.out.ghost_name) × (l.s-end ≡ statements l.program)

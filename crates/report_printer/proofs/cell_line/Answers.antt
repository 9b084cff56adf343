-- `report_printer::cell_line` meets its contract. Assumes nothing.
use mathlib.Core.Bool.{◌&&◌}
use Rattle.std.proofs.Common.{arith}
use Rattle.report.specs.Findings.{is_unguarded}
use Rattle.report_printer.specs.Lines.{cell_numbers}
use Rattle.report_printer.proofs.Numbers.{word, back_flag, cell_small}
use Rattle.report_printer.proofs.cell_line.Goals as goal

pub overflow_cast-result : goal.overflow_cast-result
overflow_cast-result c = omega (arith, (cell_small _ _ _ _ _ c.requires).cell)

pub overflow_cast-result-2 : goal.overflow_cast-result-2
overflow_cast-result-2 c = omega (arith, (cell_small _ _ _ _ _ c.requires).reads)

pub overflow_cast-result-3 : goal.overflow_cast-result-3
overflow_cast-result-3 c = omega (arith, (cell_small _ _ _ _ _ c.requires).writes)

pub overflow_cast-result-4 : goal.overflow_cast-result-4
overflow_cast-result-4 c = omega (arith, (cell_small _ _ _ _ _ c.requires).locks)

pub returns : goal.returns
unfolding cell_numbers is_unguarded
returns c =
    let small = cell_small _ _ _ _ _ c.requires in
    rw (word c.args.x small.cell, word c.args.reading small.reads, word c.args.writing small.writes, back_flag c.has.result c.from.ensures, word c.args.common small.locks, back_flag (c.has-2.result && c.is_empty.result) c.from-2.ensures, c.has.ensures, c.has-2.ensures, c.is_empty.ensures)

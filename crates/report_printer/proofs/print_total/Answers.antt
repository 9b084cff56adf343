-- `report_printer::print_total` meets its contract. Assumes nothing.
use Rattle.std.proofs.Common.{arith}
use Rattle.report_printer.specs.Lines.{total_numbers}
use Rattle.report_printer.proofs.Numbers.{word, total_small}
use Rattle.report_printer.proofs.print_total.Goals as goal

pub overflow_cast-unguarded : goal.overflow_cast-unguarded
overflow_cast-unguarded c = omega (arith, (total_small _ _ c.requires.0).0)

pub overflow_cast-strays : goal.overflow_cast-strays
overflow_cast-strays c = omega (arith, (total_small _ _ c.requires.0).1)

pub push-requires : goal.push-requires
unfolding total_numbers
push-requires c =
    let small = total_small _ _ c.requires.0 in
    rw (word c.args.unguarded small.0, word c.args.strays small.1) (c.requires.0.range, c.requires.1)

pub returns : goal.returns
unfolding total_numbers
returns c =
    let small = total_small _ _ c.requires.0 in
    rw (word c.args.unguarded small.0, word c.args.strays small.1) at c.push.ensures

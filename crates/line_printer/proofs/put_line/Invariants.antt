-- `line_printer::put_line` meets its contract: the fields of the first i numbers are written, the places behind stay. Assumes nothing.
use Rattle.line_printer.specs.PrintLoops.{Lining}
use Rattle.line_printer.proofs.put_line.Given as goal

abbrev pub invariant-loop-i : goal.invariant-loop-i
invariant-loop-i l = Lining l.initial.part l.numbers l.i l.part

-- `line_printer::put_number` meets its contract: the digits behind place k are written, spaces stand before. Assumes nothing.
use Rattle.std.proofs.Common.{nat_abs}
use Rattle.line_printer.specs.PrintLoops.{Filling}
use Rattle.line_printer.proofs.put_number.Given as goal

abbrev pub invariant-loop-m : goal.invariant-loop-m
invariant-loop-m l = Filling (nat_abs l.n) l.field l.m l.k

abbrev pub decreases-loop-m : goal.decreases-loop-m
decreases-loop-m l = l.m

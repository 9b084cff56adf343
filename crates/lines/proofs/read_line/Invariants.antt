-- `lines::read_line` meets its contract: the first j fields are read, and what is left gives the whole. Assumes nothing.
use Rattle.std.proofs.Common.{take, drop}
use Rattle.lines.specs.LineLoops.{Reading}
use Rattle.lines.proofs.read_line.Given as goal

abbrev pub invariant-loop-j : goal.invariant-loop-j
invariant-loop-j l = Reading (take 49 (drop l.at l.text)) l.j l.numbers

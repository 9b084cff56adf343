-- `lines::read_numbers` meets its contract: before line i every line is good and its numbers stand in their places. Assumes nothing.
use Rattle.std.proofs.Common.{◌≡◌, None, take, drop}
use Rattle.lines.specs.LineLoops.{Reading}
use Rattle.lines.proofs.LineLoops.{Paging}
use Rattle.lines.proofs.read_numbers.Given as goal

abbrev pub invariant-lines : goal.invariant-lines
invariant-lines l = Paging l.text l.lines l.i l.numbers × (l.first_bad ≡ None)

abbrev pub invariant-loop-j : goal.invariant-loop-j
invariant-loop-j l = Reading (take 49 (drop l.at l.text)) l.j l.line × (l.first_bad ≡ None)

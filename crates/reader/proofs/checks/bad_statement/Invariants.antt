-- `reader::checks::bad_statement` meets its contract. Assumes nothing.
use Rattle.reader.specs.SearchLaws.{Searching}
use Rattle.reader.proofs.checks.bad_statement.Given as goal

abbrev pub invariant-loop-r : goal.invariant-loop-r
invariant-loop-r l = Searching l.outline.numbers.now l.count l.r

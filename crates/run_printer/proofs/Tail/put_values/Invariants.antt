-- `run_printer::Tail::put_values` meets its contract. Assumes nothing.
use Rattle.run_printer.specs.Words.{word_text}
use Rattle.run_printer.proofs.WordsLaws.{Backing}
use Rattle.run_printer.proofs.Tail.put_values.Given as goal

abbrev pub invariant-loop-i : goal.invariant-loop-i
invariant-loop-i l = Backing (λ i v. word_text v) l.values l.initial.self l.i l.self

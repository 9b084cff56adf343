-- `run_printer::Tail::put_answers` meets its contract. Assumes nothing.
use Rattle.std.specs.Prelude.{pos}
use Rattle.run_printer.specs.Words.{word_text}
use Rattle.run_printer.proofs.WordsLaws.{Backing}
use Rattle.run_printer.proofs.Tail.put_answers.Given as goal

abbrev pub invariant-loop-i : goal.invariant-loop-i
invariant-loop-i l = Backing (λ i a. word_text (pos a)) l.answers l.initial.self l.i l.self

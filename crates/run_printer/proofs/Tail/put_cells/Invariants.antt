-- `run_printer::Tail::put_cells` meets its contract. Assumes nothing.
use Rattle.run_printer.specs.Words.{cell_text}
use Rattle.run_printer.proofs.WordsLaws.{Backing}
use Rattle.run_printer.proofs.Tail.put_cells.Given as goal

abbrev pub invariant-loop-i : goal.invariant-loop-i
invariant-loop-i l = Backing cell_text l.cells l.initial.self l.i l.self

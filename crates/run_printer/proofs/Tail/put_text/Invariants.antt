-- `run_printer::Tail::put_text` meets its contract. Assumes nothing.
use Rattle.std.specs.Prelude.{ℕ, List, [], ◌∷◌}
use Rattle.run_printer.proofs.WordsLaws.{Backing}
use Rattle.run_printer.proofs.Tail.put_text.Given as goal

-- the text of a byte
abbrev pub alone : ℕ → ℕ → List ℕ
alone i b = b ∷ []

abbrev pub invariant-loop-i : goal.invariant-loop-i
invariant-loop-i l = Backing alone l.text l.initial.self l.i l.self

-- `run_printer::Tail::put_digits` meets its contract. Assumes nothing.
use Rattle.std.specs.Prelude.{◌≡◌}
use Rattle.run_printer.specs.PutBefore.{ended}
use Rattle.run_printer.proofs.WordsLaws.{Spelling}
use Rattle.run_printer.proofs.Tail.put_digits.Given as goal

abbrev pub invariant-loop-m : goal.invariant-loop-m
invariant-loop-m l = Spelling l.n (ended l.initial.self) l.m (ended l.self) × (l.self.out.ghost_name ≡ l.initial.self.out.ghost_name)

abbrev pub decreases-loop-m : goal.decreases-loop-m
decreases-loop-m l = l.m

-- `naming::named_among` meets its contract. Assumes nothing.
use Rattle.table.specs.Naming.{named_by}
use Rattle.naming.specs.GatherLaws.{Gathering}
use Rattle.naming.proofs.named_among.Given as goal

abbrev pub invariant-loop-s : goal.invariant-loop-s
invariant-loop-s l = Gathering (named_by l.numbers) l.end l.from l.named l.s

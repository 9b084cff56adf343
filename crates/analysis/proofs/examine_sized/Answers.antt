-- `analysis::examine_sized` meets its contract. Assumes nothing.
use Rattle.analysis.specs.ReportedLaws.{lent_long}
use Rattle.analysis.proofs.examine_sized.Goals as goal

pub examine_in-requires-2-clause-lent : goal.examine_in-requires-2-clause-lent
examine_in-requires-2-clause-lent c = lent_long c.args.numbers.now c.requires.accepted

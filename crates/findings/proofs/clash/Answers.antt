-- `findings::clash` meets its contract. Assumes nothing.
use Rattle.report.specs.Findings.{clash}
use Rattle.findings.proofs.clash.Goals as goal

pub returns : goal.returns
unfolding clash
returns c = rw (c.intersection.ensures, c.union-3.ensures, c.intersection-both.ensures, c.union-2.ensures, c.union.ensures)

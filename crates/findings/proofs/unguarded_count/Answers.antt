-- `findings::unguarded_count` meets its contract. Assumes nothing.
use Rattle.std.proofs.Common.{rules, of_calls}
use Rattle.report.specs.Findings.{is_unguarded}
use Rattle.findings.specs.Steps.{unguarded_in}
use Rattle.findings.proofs.unguarded_count.Goals as goal

pub returns : goal.returns
unfolding unguarded_in is_unguarded
returns c = record { is = c.count_each.ensures.is _ (λ x b l h. search (rules, of_calls)); small = c.count_each.ensures.small }

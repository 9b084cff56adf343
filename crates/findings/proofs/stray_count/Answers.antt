-- `findings::stray_count` meets its contract. Assumes nothing.
use Rattle.std.specs.Prelude.{ℕ}
use Rattle.std.proofs.Common.{rules, of_calls, arith, ap, ◌∙◌}
use Rattle.report.specs.Over.{count_from}
use Rattle.findings.specs.Steps.{stray_in}
use Rattle.findings.proofs.stray_count.Goals as goal

pub returns : goal.returns
unfolding stray_in
returns c = let is = stray_in c.args.program.now c.args.flow.now c.args.held.now in
    record {
      is = c.count_each.ensures.is is (λ s r l h. search (rules, of_calls)) ∙ ap (λ (n : ℕ). count_from 0 n is) c.statements.ensures.is;
      small = omega (arith, c.count_each.ensures.small, c.statements.ensures.few);
    }

-- `findings::started` meets its contract. Assumes nothing.
use Rattle.std.specs.Prelude.{ℕ, ◌≡◌, ◌-◌}
use Rattle.std.proofs.Common.{rules, of_calls, ap, ◌∙◌, arith}
use Rattle.table.specs.Header.{statements}
use Rattle.report.specs.Over.{union_from}
use Rattle.findings.specs.Steps.{started_by}
use Rattle.findings.proofs.started.Goals as goal

pub returns : goal.returns
returns c =
    let f = c.args.program.now in
    let many : c.statements.result - 0 ≡ statements f = omega (arith, c.statements.ensures.is) in
    record {
      accepted = c.statements.ensures.accepted;
      is = c.unite_each.ensures (started_by f) (λ s r low high h. search (rules, of_calls)) ∙ ap (λ (n : ℕ). union_from 0 n (started_by f)) many;
    }

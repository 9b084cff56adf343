-- `findings::shared_cells` meets its contract. Assumes nothing.
use Rattle.std.specs.Prelude.{ℕ, ◌≡◌, ◌+◌, ◌-◌}
use Rattle.std.proofs.Common.{rules, of_calls, ap₂, ◌∙◌, arith}
use Rattle.table.specs.Header.{statements, routines}
use Rattle.report.specs.Over.{union_from}
use Rattle.findings.specs.Steps.{shared_by}
use Rattle.findings.proofs.shared_cells.Goals as goal

pub returns : goal.returns
returns c =
    let f = c.args.program.now in
    let a = c.args in
    let shared = shared_by f a.reads.now a.writes.now a.later.now in
    let half : c.statements.result + c.routines.result ≡ statements f + routines f = ap₂ ◌+◌ c.statements.ensures.is c.routines.ensures.is in
    let many : c.statements-2.result - 0 ≡ statements f = omega (arith, c.statements-2.ensures.is) in
    record {
      accepted = c.statements.ensures.accepted;
      is =
          c.unite_each.ensures (shared (c.statements.result + c.routines.result)) (λ s r low high h. search (rules, of_calls))
          ∙ ap₂ (λ (n h : ℕ). union_from 0 n (shared h)) many half;
    }

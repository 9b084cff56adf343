-- `reader::checks::statement_verdict` meets its contract. Assumes nothing.
use native.Mathlib.Omega.{arith}
use mathlib.Core.Path.{sym, ap, ap₂, ◌∙◌}
use Prim.Native.Nat.{ℕ, ◌+◌, ◌-◌, ◌<◌}
use borrow.Author.Tests.{ltb-true}
use Rattle.table.specs.Header.{routines}
use Rattle.table.proofs.HeaderLaws.{statement_line_lem}
use Rattle.table.proofs.FoundLaws.{below_some, below_none}
use Rattle.table.proofs.Lists.{statements_begin, begin_early}
use Rattle.table.specs.Statements.{last_of}
use Rattle.table.specs.Verdict.{statement_verdict}
use Rattle.reader.proofs.checks.statement_verdict.Goals as goal

pub returns-in-Some : goal.returns-in-Some
unfolding statement_verdict
returns-in-Some c =
    let f = below_some _ _ _ (sym c.in-Some.is ∙ c.bad_statement.ensures) in
    let line = ap (λ (n : ℕ). n + c.in-Some.s) c.first_line.ensures.is ∙ statement_line_lem c.args.outline.now.numbers.now c.in-Some.s in
    rw (line, f.0, f.1)

pub overflow_add-result-in-Some-running_on : goal.overflow_add-result-in-Some-running_on
overflow_add-result-in-Some-running_on c =
    record { fits = omega (arith, c.last_of-last.ensures, begin_early c.args.outline.now.statements_begin (c.in-Some-running_on.r + 1), c.first_line-in-Some-running_on.ensures.small) }

pub returns-in-Some-running_on : goal.returns-in-Some-running_on
unfolding statement_verdict
returns-in-Some-running_on c =
    let f = below_some _ _ _ (sym c.in-Some-running_on.is ∙ c.running_on.ensures) in
    let r = c.in-Some-running_on.r in
    let inside : r < routines c.args.outline.now.numbers.now = omega (arith, f.1, ltb-true _ _ f.0) in
    let last = c.last_of-last.ensures ∙ ap (λ (n : ℕ). n - 1) (statements_begin c.args.outline.now.statements_begin (r + 1) (omega arith)) in
    let line = ap₂ (λ (m n : ℕ). m + n) c.first_line-in-Some-running_on.ensures.is last ∙ statement_line_lem c.args.outline.now.numbers.now (last_of c.args.outline.now.numbers.now r) in
    rw (line, below_none _ _ (sym c.in_default.is ∙ c.bad_statement.ensures), f.0, f.1)

pub returns : goal.returns
unfolding statement_verdict
returns c =
    rw (
      below_none _ _ (sym c.in_default.is ∙ c.bad_statement.ensures),
      below_none _ _ (sym c.in_default-running_on.is ∙ c.running_on.ensures),
      ← c.names_in-names.ensures,
    )
    c.naming_verdict.ensures

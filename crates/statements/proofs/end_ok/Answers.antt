-- `statements::end_ok` meets its contract. Assumes nothing.
use native.Mathlib.Omega.{arith}
use mathlib.Core.Path.{ap, ap₂, ◌∙◌}
use Prim.Native.Nat.{ℕ, ◌+◌, ◌-◌}
use Rattle.table.proofs.HeaderLaws.{statement_line_lem}
use Rattle.table.proofs.Lists.{statements_begin, begin_early}
use Rattle.table.specs.Statements.{end_ok, last_of}
use Rattle.statements.proofs.end_ok.Goals as goal

pub overflow_add-first_line : goal.overflow_add-first_line
overflow_add-first_line c =
    record { fits = omega (arith, c.last_of.ensures, begin_early c.args.outline.now.statements_begin (c.args.r + 1), c.first_line.ensures.small) }

pub returns : goal.returns
unfolding end_ok
returns c =
    let f = c.args.outline.now.numbers.now in
    let r = c.args.r in
    let last = c.last_of.ensures ∙ ap (λ (n : ℕ). n - 1) (statements_begin c.args.outline.now.statements_begin (r + 1) (omega (arith, c.requires))) in
    let line = ap₂ (λ (m n : ℕ). m + n) c.first_line.ensures.is last ∙ statement_line_lem f (last_of f r) in
    rw (c.field_of-op.ensures.is, line)

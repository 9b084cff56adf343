-- `statements::statement_ok` meets its contract. Assumes nothing.
use mathlib.Core.Path.{ap, ◌∙◌}
use Prim.Native.Nat.{ℕ, ◌+◌}
use Rattle.table.proofs.HeaderLaws.{statement_line_lem}
use Rattle.table.specs.Statements.{statement_ok}
use Rattle.statements.proofs.statement_ok.Goals as goal

pub returns : goal.returns
unfolding statement_ok
returns c =
    let s = c.args.s in
    let line = ap (λ (n : ℕ). n + s) c.first_line.ensures.is ∙ statement_line_lem c.args.outline.now.numbers.now s in
    rw (c.operation_ok.ensures, c.field_of.ensures.is, line)

-- `naming::names_of` meets its contract. Assumes nothing.
use native.Mathlib.Omega.{arith}
use borrow.Author.Tests.{lt-ltb}
use mathlib.Core.Path.{ap₂, ◌∙◌}
use Prim.Native.Nat.{ℕ, ◌+◌, ◌-◌}
use Rattle.table.specs.Naming.{names_of, named_by, gather}
use Rattle.table.proofs.Lists.{statements_begin, begin_early}
use Rattle.naming.proofs.names_of.Goals as goal

pub named_among-requires : goal.named_among-requires
named_among-requires c = omega (arith, c.value_at-2.ensures, begin_early c.args.outline.now.statements_begin (c.args.r + 1))

pub returns : goal.returns
unfolding names_of
returns c =
    let f = c.args.outline.now.numbers.now in
    let r = c.args.r in
    rw (lt-ltb _ _ c.requires)
    (c.named_among.ensures
    ∙ ap₂ (λ (p q : ℕ). gather (named_by f) 0 p (q - p)) (c.value_at.ensures ∙ statements_begin c.args.outline.now.statements_begin r (omega (arith, c.requires)))
    (c.value_at-2.ensures ∙ statements_begin c.args.outline.now.statements_begin (r + 1) (omega (arith, c.requires))))

-- `statements::argument_ok` meets its contract. Assumes nothing.
use native.Mathlib.Omega.{arith}
use mathlib.Core.Path.{◌∙◌}
use borrow.Author.Tests.{le-ltb, lt-ltb}
use Rattle.table.proofs.Lists.{handles_begin, handles_early, parameters_counted}
use Rattle.table.specs.Statements.{argument_ok}
use Rattle.statements.proofs.argument_ok.Goals as goal

pub overflow_add-value_at : goal.overflow_add-value_at
overflow_add-value_at c =
    record { fits = omega (arith, c.value_at-then-k-value_at.ensures, handles_early c.args.outline.now.handles_begin c.args.q (omega (arith, c.requires.q_bound)), c.requires.k_bound) }

pub overflow_add-value_at-then-k-value_at : goal.overflow_add-value_at-then-k-value_at
overflow_add-value_at-then-k-value_at c =
    record { fits = omega (arith, c.value_at-then-k-value_at.ensures, handles_early c.args.outline.now.handles_begin c.args.q (omega (arith, c.requires.q_bound)), c.requires.k_bound) }

pub returns-then-k-value_at : goal.returns-then-k-value_at
unfolding argument_ok
returns-then-k-value_at c =
    let f = c.args.outline.now.numbers.now in
    let n = c.value_at.ensures ∙ parameters_counted c.args.outline.now.parameters_counted c.args.q c.requires.q_bound in
    let h = c.value_at-then-k-value_at.ensures ∙ handles_begin c.args.outline.now.handles_begin c.args.q (omega (arith, c.requires.q_bound)) in
    rw (lt-ltb _ _ (rw n at c.if-k-value_at.true), c.own_of_kind.ensures, c.field_of-kind.ensures.is, h, c.field_of-x.ensures.is)

pub returns : goal.returns
unfolding argument_ok
returns c =
    let f = c.args.outline.now.numbers.now in
    let n = c.value_at.ensures ∙ parameters_counted c.args.outline.now.parameters_counted c.args.q c.requires.q_bound in
    rw (le-ltb _ _ (rw n at c.if-k-value_at.false), c.field_of-x.ensures.is)

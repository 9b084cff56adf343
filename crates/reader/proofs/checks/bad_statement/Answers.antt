-- `reader::checks::bad_statement` meets its contract. Assumes nothing.
use native.Mathlib.Omega.{arith}
use mathlib.Core.Path.{sym, ◌∙◌}
use Prim.Native.Nat.{◌+◌}
use Rattle.reader.specs.SearchLaws.{stopped_there, went_on, found_none}
use Rattle.table.proofs.Lists.{begin_early}
use Rattle.reader.proofs.checks.bad_statement.Goals as goal

pub bad_among-requires-clause-end_bound : goal.bad_among-requires-clause-end_bound
bad_among-requires-clause-end_bound c = omega (arith, c.value_at-end.ensures, begin_early c.args.outline.now.statements_begin (c.loop-r.r + 1))

pub returns-in-Some : goal.returns-in-Some
returns-in-Some c =
    stopped_there c.args.outline.now.statements_begin _ c.field_of-count.ensures.is _ _ _ c.loop-r-test.true c.value_at-from.ensures c.value_at-end.ensures c.loop-r.invariant _ c.in-Some.ensures

pub loop-r-preserved : goal.loop-r-preserved
loop-r-preserved c =
    went_on c.args.outline.now.statements_begin _ c.field_of-count.ensures.is _ _ _ c.loop-r-test.true c.value_at-from.ensures c.value_at-end.ensures c.loop-r.invariant (sym c.in_default.is ∙ c.bad_among.ensures)

pub returns : goal.returns
returns c = found_none c.args.outline.now.statements_begin _ c.field_of-count.ensures.is _ c.loop-r.invariant c.loop-r-test.false

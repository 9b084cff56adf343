-- `statements::operation_ok` meets its contract: each operation's rule, found by the tests on the way. Assumes nothing.
use native.Mathlib.Omega.{arith}
use Prim.Native.Nat.{◌+◌}
use Rattle.table.specs.Statements.{operation_ok, own_statement}
use Rattle.table.proofs.Lists.{statements_begin}
use borrow.Author.Tests.{eq-eqb, ne_eqb}
use Rattle.statements.proofs.operation_ok.Goals as goal

pub returns-then-op : goal.returns-then-op
unfolding operation_ok
returns-then-op c = rw (c.if-op.true, c.own_of_kind.ensures, c.is_unused.ensures, c.field_of-a.ensures.is)

pub returns-then-op-2 : goal.returns-then-op-2
unfolding operation_ok
returns-then-op-2 c = rw (c.if-op.false, c.if-op-2.true, c.is_unused-then-op-2.ensures)

pub returns-then-op-3 : goal.returns-then-op-3
unfolding operation_ok
returns-then-op-3 c = rw (c.if-op.false, c.if-op-2.false, c.if-op-3.true, c.own_of_kind-then-op-3.ensures, c.is_unused-then-op-3.ensures, c.field_of-a.ensures.is)

pub returns-then-op-eq7 : goal.returns-then-op-eq7
unfolding operation_ok
returns-then-op-eq7 c = rw (c.if-op.false, c.if-op-2.false, c.if-op-3.false, eq-eqb _ _ c.if-op-eq7.true, c.point_ok.ensures)

pub returns-then-op-4 : goal.returns-then-op-4
unfolding operation_ok
returns-then-op-4 c = rw (c.if-op.false, c.if-op-2.false, c.if-op-3.false, ne_eqb _ _ c.if-op-eq7.false, c.if-op-4.true, c.naming_ok.ensures)

pub returns-then-op-5 : goal.returns-then-op-5
unfolding operation_ok own_statement
returns-then-op-5 c =
    let inside = c.requires.r_bound in
    let few = c.args.outline.now.statements_begin.sized.routines_most in
    rw (c.if-op.false, c.if-op-2.false, c.if-op-3.false, ne_eqb _ _ c.if-op-eq7.false, c.if-op-4.false, c.if-op-5.true, c.own_statement.ensures, c.is_unused-then-op-5.ensures, c.field_of-a.ensures.is, statements_begin c.args.outline.now.statements_begin c.args.r (omega arith), statements_begin c.args.outline.now.statements_begin (c.args.r + 1) (omega arith))

pub returns : goal.returns
unfolding operation_ok
returns c = rw (c.if-op.false, c.if-op-2.false, c.if-op-3.false, ne_eqb _ _ c.if-op-eq7.false, c.if-op-4.false, c.if-op-5.false, c.is_unused-2.ensures)

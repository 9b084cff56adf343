-- `table::statement_in` meets its contract: one operation an arm. Assumes nothing.
use borrow.Author.Tests.{ne_eqb}
use mir.Syntax.{w32}
use mir.Facts.{to_z-of_z}
use Rattle.table.specs.Table.{statement_in}
use Rattle.table.proofs.statement_in.Goals as goal

pub returns-in-1 : goal.returns-in-1
unfolding statement_in
returns-in-1 c = rw (c.in-1.is, c.field_in-number.ensures.is)

pub returns-in-2 : goal.returns-in-2
unfolding statement_in
returns-in-2 c = rw (c.in-2.is, c.field_in-number.ensures.is)

pub returns-in-5 : goal.returns-in-5
unfolding statement_in
returns-in-5 c = rw (c.in-5.is, c.field_in-number.ensures.is)

pub returns-in-6 : goal.returns-in-6
unfolding statement_in
returns-in-6 c = rw (c.in-6.is, c.field_in-number.ensures.is)

pub returns-in-7 : goal.returns-in-7
unfolding statement_in
returns-in-7 c = rw (c.in-7.is, c.field_in-number.ensures.is, c.field_in.ensures.is)

pub returns-in-8 : goal.returns-in-8
unfolding statement_in
returns-in-8 c = rw (c.in-8.is, c.field_in-number.ensures.is, c.arguments_in.ensures)

pub returns-in-9 : goal.returns-in-9
unfolding statement_in
returns-in-9 c = rw (c.in-9.is, c.field_in-number.ensures.is, c.arguments_in-in-9.ensures)

pub returns-in-10 : goal.returns-in-10
unfolding statement_in
returns-in-10 c = rw (c.in-10.is, c.field_in-number.ensures.is)

pub returns-in-11 : goal.returns-in-11
unfolding statement_in
returns-in-11 c = rw (c.in-11.is, c.field_in-number.ensures.is)

pub returns-in-13 : goal.returns-in-13
unfolding statement_in
returns-in-13 c = rw (c.in-13.is, c.field_in-number.ensures.is)

pub returns-in-3 : goal.returns-in-3
unfolding statement_in
returns-in-3 c = rw (c.in-3.is, to_z-of_z {w = w32} (record { sfits = c.number_in.type_inv }), c.number_in.ensures)

pub returns-in-4 : goal.returns-in-4
unfolding statement_in
returns-in-4 c = rw (c.in-4.is, to_z-of_z {w = w32} (record { sfits = c.number_in-in-4.type_inv }), c.number_in-in-4.ensures)

pub returns-in_default : goal.returns-in_default
unfolding statement_in
returns-in_default c =
    let others = c.in_default.in_default-own in
    rw (
      ne_eqb _ 1 others.rest.0.0.0.0.0.0.0.0.0.0.0.1,
      ne_eqb _ 2 others.rest.0.0.0.0.0.0.0.0.0.0.1,
      ne_eqb _ 3 others.rest.0.0.0.0.0.0.0.0.0.1,
      ne_eqb _ 4 others.rest.0.0.0.0.0.0.0.0.1,
      ne_eqb _ 5 others.rest.0.0.0.0.0.0.0.1,
      ne_eqb _ 6 others.rest.0.0.0.0.0.0.1,
      ne_eqb _ 7 others.rest.0.0.0.0.0.1,
      ne_eqb _ 8 others.rest.0.0.0.0.1,
      ne_eqb _ 9 others.rest.0.0.0.1,
      ne_eqb _ 10 others.rest.0.0.1,
      ne_eqb _ 11 others.rest.0.1,
      ne_eqb _ 13 others.rest.1,
    )

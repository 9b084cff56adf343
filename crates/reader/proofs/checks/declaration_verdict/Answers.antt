-- `reader::checks::declaration_verdict` meets its contract. Assumes nothing.
use borrow.Author.Tests.{eqb-true}
use mathlib.Core.Path.{sym, ◌∙◌}
use Rattle.table.proofs.FoundLaws.{below_some, below_none}
use Rattle.table.specs.Verdict.{declaration_verdict}
use Rattle.table.specs.Routines.{sum_ok}
use Rattle.reader.proofs.checks.declaration_verdict.Goals as goal

pub returns-in-Some : goal.returns-in-Some
unfolding declaration_verdict
returns-in-Some c = let f = below_some _ _ _ (sym c.in-Some.is ∙ c.bad_handle.ensures) in rw (f.0, f.1)

pub returns-in-Some-bad_routine : goal.returns-in-Some-bad_routine
unfolding declaration_verdict
returns-in-Some-bad_routine c =
    let f = below_some _ _ _ (sym c.in-Some-bad_routine.is ∙ c.bad_routine.ensures) in
    rw (below_none _ _ (sym c.in_default.is ∙ c.bad_handle.ensures), f.0, f.1, c.field_of.ensures.is)

pub returns-then-not-sum_ok : goal.returns-then-not-sum_ok
unfolding declaration_verdict
returns-then-not-sum_ok c =
    rw (
      below_none _ _ (sym c.in_default.is ∙ c.bad_handle.ensures),
      below_none _ _ (sym c.in_default-bad_routine.is ∙ c.bad_routine.ensures),
      sym c.sum_ok.ensures ∙ c.if-not-sum_ok.true,
    )

pub invariant_of-statement_verdict : goal.invariant_of-statement_verdict
unfolding sum_ok
invariant_of-statement_verdict c =
    let made = c.of-extents.ensures in
    record {
      statements_begin = record { sized = c.requires; sum = eqb-true _ _ (sym c.sum_ok.ensures ∙ c.if-not-sum_ok.false); is = made.firsts };
      handles_begin = record { sized = c.requires; is = made.handles_first };
      parameters_counted = record { sized = c.requires; is = made.parameters };
    }

pub returns : goal.returns
unfolding declaration_verdict
returns c =
    rw (
      below_none _ _ (sym c.in_default.is ∙ c.bad_handle.ensures),
      below_none _ _ (sym c.in_default-bad_routine.is ∙ c.bad_routine.ensures),
      sym c.sum_ok.ensures ∙ c.if-not-sum_ok.false,
    )
    c.statement_verdict.ensures

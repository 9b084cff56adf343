-- `reader::checks::naming_verdict` meets its contract. Assumes nothing.
use Rattle.std.proofs.Common.{sym, ◌∙◌}
use Rattle.table.proofs.FoundLaws.{below_some, below_none}
use Rattle.table.specs.Verdict.{naming_verdict}
use Rattle.naming.specs.GatherLaws.{names_ended}
use Rattle.reader.proofs.checks.naming_verdict.Goals as goal

pub unnamed_routine-requires : goal.unnamed_routine-requires
unnamed_routine-requires c =
    rw c.field_of-count.ensures.is (names_ended c.args.numbers.now c.args.names.now c.requires.sized.routines_most c.requires.names_value)

pub returns-in-Some : goal.returns-in-Some
unfolding naming_verdict
returns-in-Some c =
    let f = below_some _ _ _ (sym c.in-Some.is ∙ c.unnamed_routine.ensures) in
    rw (← c.field_of-count.ensures.is, f.0, f.1, c.field_of.ensures.is)

pub returns-in-Some-recursive_routine : goal.returns-in-Some-recursive_routine
unfolding naming_verdict
returns-in-Some-recursive_routine c =
    let f = below_some _ _ _ (sym c.in-Some-recursive_routine.is ∙ c.recursive_routine.ensures) in
    rw (← c.field_of-count.ensures.is, below_none _ _ (sym c.in_default.is ∙ c.unnamed_routine.ensures), f.0, f.1, c.field_of-in-Some-recursive_routine.ensures.is)

pub returns : goal.returns
unfolding naming_verdict
returns c =
    rw (
      ← c.field_of-count.ensures.is,
      below_none _ _ (sym c.in_default.is ∙ c.unnamed_routine.ensures),
      below_none _ _ (sym c.in_default-recursive_routine.is ∙ c.recursive_routine.ensures),
    )

-- `reader::read_into` meets its contract. Assumes nothing.
use mathlib.Core.Path.{◌≡◌, sym, ◌∙◌}
use mathlib.Core.Bool.{true}
use mathlib.Core.Option.{none}
use lib.ListN.{length}
use Rattle.lines.specs.Line.{first_bad}
use Rattle.lines.proofs.LineLoops.{told_some, told_none}
use Rattle.table.specs.Verdict.{text_ok}
use Rattle.table.proofs.VerdictLaws.{bad_length, bad_line, into_refused, into_numbers}
use Rattle.reader.proofs.read_into.Goals as goal

pub returns-then-not-has_length-clause-verdict : goal.returns-then-not-has_length-clause-verdict
returns-then-not-has_length-clause-verdict c =
    (into_refused c.args.text.now c.args.numbers.now _ (bad_length _ (sym c.has_length.ensures ∙ c.if-not-has_length.true))).0

pub returns-in-Some-clause-verdict : goal.returns-in-Some-clause-verdict
returns-in-Some-clause-verdict c =
    let good : text_ok (length c.args.text.now) ≡ true = sym c.has_length.ensures ∙ c.if-not-has_length.false in
    (into_refused c.args.text.now c.args.numbers.now _ (bad_line c.args.text.now _ good (told_some c.in-Some.ensures.found))).0

pub returns-in-None-clause-verdict : goal.returns-in-None-clause-verdict
returns-in-None-clause-verdict c =
    let good : text_ok (length c.args.text.now) ≡ true = sym c.has_length.ensures ∙ c.if-not-has_length.false in
    let none_bad : first_bad c.args.text.now ≡ none = told_none c.in-None.ensures.found in
    (into_numbers c.args.text.now _ _ good none_bad (c.in-None.ensures.numbers none_bad) c.numbers_verdict.ensures).0

-- `reader::checks::numbers_verdict` meets its contract. Assumes nothing.
use Rattle.table.proofs.HeaderLaws.{header_sized}
use mathlib.Core.Path.{sym, ◌∙◌}
use Rattle.table.proofs.FoundLaws.{below_some, below_none}
use Rattle.table.specs.Verdict.{numbers_verdict}
use Rattle.reader.proofs.checks.numbers_verdict.Goals as goal

pub returns-then-not-header_ok : goal.returns-then-not-header_ok
unfolding numbers_verdict
returns-then-not-header_ok c = rw (sym c.header_ok.ensures ∙ c.if-not-header_ok.true)

pub returns-then-not-length_ok : goal.returns-then-not-length_ok
unfolding numbers_verdict
returns-then-not-length_ok c = rw (sym c.header_ok.ensures ∙ c.if-not-header_ok.false, sym c.length_ok.ensures ∙ c.if-not-length_ok.true)

pub returns-in-Some : goal.returns-in-Some
unfolding numbers_verdict
returns-in-Some c =
    let f = below_some _ _ _ (sym c.in-Some.is ∙ c.bad_leading.ensures) in
    rw (sym c.header_ok.ensures ∙ c.if-not-header_ok.false, sym c.length_ok.ensures ∙ c.if-not-length_ok.false, f.0, f.1)

pub declaration_verdict-requires : goal.declaration_verdict-requires
declaration_verdict-requires c = header_sized _ (sym c.header_ok.ensures ∙ c.if-not-header_ok.false)

pub returns : goal.returns
unfolding numbers_verdict
returns c =
    rw (sym c.header_ok.ensures ∙ c.if-not-header_ok.false, sym c.length_ok.ensures ∙ c.if-not-length_ok.false, below_none _ _ (sym c.in_default.is ∙ c.bad_leading.ensures))
    c.declaration_verdict.ensures
